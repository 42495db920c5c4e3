-- The rows of a map that is loaded are under their keys. Serves a table that loads rows.
use Rattle.std.proofs.Common.{◌≡◌, List, [], ◌∷◌, Ok, refl, subst}
use Rattle.bt_row.specs.Schemas.{Schema}
use Rattle.bt_value.specs.declared.value.Value.{Value}
use Rattle.bt_keycode.specs.Standing.{AreOf, RowMap, row_key}
use Rattle.bt_load.specs.Maps.{keyed_rows, map_by_key, map_of}
use Rattle.bt_load.proofs.offered.Loaded.{map_of-map_by_key}
use Rattle.bt_table.specs.Standing.{AllStand}
use Rattle.bt_table.proofs.Standing.{put-stand}

map_by_key-stand : (schema : Schema) (rows : List (List Value)) → AreOf schema.columns rows → AllStand schema (map_by_key (keyed_rows schema.keys rows))
map_by_key-stand schema [] fit = tt
map_by_key-stand schema (row ∷ rows) fit =
    put-stand schema (row_key schema.keys row) row (map_by_key (keyed_rows schema.keys rows)) (record {
      placed = refl;
      fits = fit.0.fits;
      in_range =
          fit.0.in_range;
    }) (map_by_key-stand schema rows fit.1)

pub map_of-stand : (schema : Schema) (rows : List (List Value)) (pairs : RowMap) → AreOf schema.columns rows → map_of schema.keys rows ≡ Ok pairs → AllStand schema pairs
map_of-stand schema rows pairs fit is = subst (AllStand schema) (map_of-map_by_key schema.keys rows pairs is) (map_by_key-stand schema rows fit)
