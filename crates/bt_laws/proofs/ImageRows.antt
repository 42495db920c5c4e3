-- Trees of rows that have the same image hold the same rows.
use Rattle.std.proofs.Common.{ℕ, zero, suc, ◌≡◌, ◌≢◌, ◌∙◌, ◌+◌, ◌-◌, ◌<◌, ◌≤◌, ◌^◌, ◌/◌, ◌%◌, min, Bool, true, false, ◌&&◌, List, [], ◌∷◌, ◌++◌, length, map}
use Rattle.std.proofs.Common.{Option, Some, None, ap, sym, subst, refl, arith, append_assoc, append-nil, if◌then◌else◌, codes, T, cond, nat_lt, inl, inr}
use Rattle.std.proofs.lemmas.Bool.Decides.{nat_tests}
use Rattle.std.proofs.lemmas.Fmt.{decimal_injective, digits_decimal}
use Rattle.std.proofs.lemmas.Str.Parse.{IsNumeralModel, numerals_by_fold}
use Rattle.std.specs.Fmt.{decimal}
use Rattle.std.specs.List.{AllByRecursion, flat_map, list_all}
use Rattle.csv.specs.Machine.{Read, next_record}
use Rattle.csv.specs.Reading.{default_config}
use Rattle.csv.specs.Writing.{default_writer, is_blank, read_back, row_body}
use Rattle.csv.specs.Writing as writing
use Rattle.csv.specs.declared.parser.State.TheVariants as state
use Rattle.csv.proofs.RoundTrip.{read-write}
use Rattle.bt_value.specs.Hex.{hex_digit, hex_text}
use Rattle.bt_value.specs.Ints.{digits_after, is_digit, number_written}
use Rattle.bt_row.specs.RecordTexts.{record_text}
use Rattle.bt_row.specs.Schemas.{Schema, fit_columns, values_of}
use Rattle.bt_value.specs.Values.{AreInRange, text_of}
use Rattle.bt_row.specs.declared.rows.schema.Column.{Column}
use Rattle.bt_value.specs.declared.value.Value.{Value}
use Rattle.bt_keycode.specs.Keys.{Key}
use Rattle.bt_keycode.specs.Standing.{AllStand, RowMap, Stands, row_key}
use Rattle.bt_message.specs.declared.message.Message.{Message}
use Rattle.bt_flush.specs.Drains.{AreDry, IsDry}
use Rattle.bt_form.specs.Fits.{AreSized, IsSized}
use Rattle.bt_form.specs.Flushes.{holds, nodes_hold}
use Rattle.bt_form.specs.Messages.{Messages, rows_after}
use Rattle.bt_form.specs.Trees.{Nodes, Shape, Tree, children, height, inner, leaf, node, none}
use Rattle.bt_laws.specs.StoredTables.{HasOnlyBytes}
use Rattle.bt_view.specs.Images.{children_text, deeper, first_line, image_text, inner_line, key_line, leaf_line, leaf_row_line, message_line, node_text, others_text, pivot_line, row_text}
use Rattle.bt_laws.proofs.ValueTexts.{own, values_of_texts}

-- ---- texts that can be read in only one way

-- what follows the same text
cancelled : (text first second : List ℕ) → text ++ first ≡ text ++ second → first ≡ second
cancelled [] first second same = same
cancelled (b ∷ text) first second same = cancelled text first second (let rest : text ++ first ≡ text ++ second = cc in rest)

-- no byte is this one
AreNot : ℕ → List ℕ → Type 0
AreNot stop [] = Unit {0}
AreNot stop (b ∷ bytes) = (b ≢ stop) × AreNot stop bytes

-- texts without a byte, up to this byte
record AreCutAlike (first second rest other : List ℕ) : Type 0 where
  same : first ≡ second
  left : rest ≡ other

cut_alike : (stop : ℕ) (first second rest other : List ℕ) → AreNot stop first → AreNot stop second → first ++ stop ∷ rest ≡ second ++ stop ∷ other → AreCutAlike first second rest other
unfolding AreNot
cut_alike stop [] [] rest other a b same = record { same = refl; left = let e : rest ≡ other = cc in e }
cut_alike stop [] (c ∷ second) rest other a b same = absurd (b.0 (let e : c ≡ stop = cc in e))
cut_alike stop (c ∷ first) [] rest other a b same = absurd (a.0 (let e : c ≡ stop = cc in e))
cut_alike stop (c ∷ first) (d ∷ second) rest other a b same =
    let head : c ≡ d = cc in
    let tail : first ++ stop ∷ rest ≡ second ++ stop ∷ other = cc in
    let more = cut_alike stop first second rest other a.1 b.1 tail in
    record { same = λ i. head i ∷ more.same i; left = more.left }

-- ---- numbers and keys

both : (a b : Bool) → (a && b) ≡ true → (a ≡ true) × (b ≡ true)
both true b e = (refl, e)
both false b e = absurd cc

digit_high : (d : ℕ) → is_digit d ≡ true → 48 ≤ d
digit_high d digit = grind (arith, nat_tests)

digits_are_not : (stop : ℕ) → stop < 48 → (ds : List ℕ) → list_all is_digit ds ≡ true → AreNot stop ds
unfolding AreNot
digits_are_not stop low [] digits = tt
digits_are_not stop low (d ∷ ds) digits =
    let parts = both (is_digit d) (list_all is_digit ds) digits in
    (λ same. omega (arith, low, same, digit_high d parts.0), digits_are_not stop low ds parts.1)

hex_high : (n : ℕ) → 48 ≤ hex_digit n
hex_high n = elim (nat_lt n 10) as (λ b. 48 ≤ (if b then 48 + n else 87 + n)) [ true ↦ omega arith | false ↦ omega arith ]

hex_is_not : (stop : ℕ) → stop < 48 → (key : Key) → AreNot stop (hex_text key)
unfolding AreNot
hex_is_not stop low [] = tt
hex_is_not stop low (b ∷ key) =
    (λ same. omega (arith, low, same, hex_high (b / 16)), (λ same. omega (arith, low, same, hex_high (b % 16)), hex_is_not stop low key))

decimal_read : (stop m n : ℕ) (rest other : List ℕ) → stop < 48 → m < 2 ^ 64 → n < 2 ^ 64 → decimal m ++ stop ∷ rest ≡ decimal n ++ stop ∷ other → (m ≡ n) × (rest ≡ other)
decimal_read stop m n rest other low a b same =
    let cut = cut_alike stop (decimal m) (decimal n) rest other (digits_are_not stop low (decimal m) (digits_decimal own m a)) (digits_are_not stop low (decimal n) (digits_decimal own n b)) same in
    (decimal_injective m n a b cut.same, cut.left)

-- ---- records

line_text : (fields : List (List ℕ)) (rest : List ℕ) → record_text fields ++ 10 ∷ rest ≡ writing.row_text default_writer fields ++ rest
line_text fields rest =
    let blank : List ℕ = if is_blank default_writer fields then 34 ∷ 34 ∷ [] else [] in
    append_assoc (row_body default_writer fields) blank (10 ∷ rest) ∙ ap (λ (t : List ℕ). row_body default_writer fields ++ t) (sym (append_assoc blank (10 ∷ []) rest))
    ∙ sym (append_assoc (row_body default_writer fields) (blank ++ 10 ∷ []) rest)

record_read : (fields others : List (List ℕ)) (rest other : List ℕ) → record_text fields ++ 10 ∷ rest ≡ record_text others ++ 10 ∷ other → (read_back fields ≡ read_back others) × (rest ≡ other)
record_read fields others rest other same =
    let next : next_record default_config state.StartRecord [] [] (writing.row_text default_writer fields ++ rest)
    ≡ next_record default_config state.StartRecord [] [] (writing.row_text default_writer others ++ other) =
    ap (next_record default_config state.StartRecord [] []) (sym (line_text fields rest) ∙ same ∙ line_text others other) in
    let all = sym (read-write fields rest) ∙ next ∙ read-write others other in
    (ap (fields_in (read_back fields)) all, ap (rest_in rest) all)
  where
    fields_in : List (List ℕ) → Option Read → List (List ℕ)
    fields_in other None = other
    fields_in other (Some p) = p.0

    rest_in : List ℕ → Option Read → List ℕ
    rest_in other None = other
    rest_in other (Some p) = p.2

-- ---- rows

-- rows of a schema, with bytes in their values
record AreFine (schema : Schema) (rows : RowMap) : Type 0 where
  stand : AllStand schema rows
  bytes : AllByRecursion (λ row. AllByRecursion HasOnlyBytes row.1) rows

fine-first : (schema : Schema) (rows others : RowMap) → AreFine schema (rows ++ others) → AreFine schema rows
fine-first schema [] others fine = record { stand = tt; bytes = tt }
fine-first schema (r ∷ rows) others fine =
    let rest = fine-first schema rows others (record { stand = fine.stand.1; bytes = fine.bytes.1 }) in
    record { stand = (fine.stand.0, rest.stand); bytes = (fine.bytes.0, rest.bytes) }

fine-rest : (schema : Schema) (rows others : RowMap) → AreFine schema (rows ++ others) → AreFine schema others
fine-rest schema [] others fine = fine
fine-rest schema (r ∷ rows) others fine = fine-rest schema rows others (record { stand = fine.stand.1; bytes = fine.bytes.1 })

fields_back : (columns : List Column) (row : List Value) → 1 ≤ length columns → fit_columns columns row ≡ true → read_back (map text_of row) ≡ map text_of row
fields_back [] row some fits = absurd (omega (arith, some))
fields_back (c ∷ columns) [] some fits = absurd cc
fields_back (c ∷ columns) (v ∷ row) some fits = refl

line_is : (indent : List ℕ) (row : Key × List Value) (rest : List ℕ)
    → leaf_row_line row_text indent row ++ rest ≡ indent ++ (61 ∷ 32 ∷ (hex_text row.0 ++ 32 ∷ (record_text (map text_of row.1) ++ 10 ∷ rest)))
line_is indent row rest =
    let fields = record_text (map text_of row.1) in
    append_assoc (indent ++ (61 ∷ 32 ∷ hex_text row.0)) (32 ∷ (fields ++ 10 ∷ [])) rest
    ∙ append_assoc indent (61 ∷ 32 ∷ hex_text row.0) (32 ∷ ((fields ++ 10 ∷ []) ++ rest))
    ∙ ap (λ (t : List ℕ). indent ++ (61 ∷ 32 ∷ (hex_text row.0 ++ 32 ∷ t))) (append_assoc fields (10 ∷ []) rest)

module _ (schema : Schema) (some : 1 ≤ length schema.columns) where
  row_read : (indent : List ℕ) (row other : Key × List Value) (rest more : List ℕ) → Stands schema row.0 row.1 → Stands schema other.0 other.1
      → AllByRecursion HasOnlyBytes row.1 → AllByRecursion HasOnlyBytes other.1
      → leaf_row_line row_text indent row ++ rest ≡ leaf_row_line row_text indent other ++ more → (row ≡ other) × (rest ≡ more)
  row_read indent row other rest more stands other_stands bytes other_bytes same =
      let line = cancelled (61 ∷ 32 ∷ []) _ _ (cancelled indent _ _ (sym (line_is indent row rest) ∙ same ∙ line_is indent other more)) in
      let cut = cut_alike 32 (hex_text row.0) (hex_text other.0) _ _ (hex_is_not 32 (omega arith) row.0) (hex_is_not 32 (omega arith) other.0) line in
      let fields = record_read (map text_of row.1) (map text_of other.1) rest more cut.left in
      let texts : map text_of row.1 ≡ map text_of other.1 = sym (fields_back schema.columns row.1 some stands.fits) ∙ fields.0 ∙ fields_back schema.columns other.1 some other_stands.fits in
      let found : Some row.1 ≡ Some other.1 =
      sym (values_of_texts schema.columns row.1 stands.fits stands.in_range bytes) ∙ ap (values_of schema.columns) texts
      ∙ values_of_texts schema.columns other.1 other_stands.fits other_stands.in_range other_bytes in
      let values : row.1 ≡ other.1 = cc in
      let key : row.0 ≡ other.0 = stands.placed ∙ ap (row_key schema.keys) values ∙ sym other_stands.placed in
      (λ i. (key i, values i), fields.1)

  rows_read : (indent : List ℕ) (rows others : RowMap) (rest more : List ℕ) → length rows ≡ length others → AreFine schema rows → AreFine schema others
      → flat_map (leaf_row_line row_text indent) rows ++ rest ≡ flat_map (leaf_row_line row_text indent) others ++ more → (rows ≡ others) × (rest ≡ more)
  rows_read indent [] [] rest more many fine other_fine same = (refl, same)
  rows_read indent [] (o ∷ others) rest more many fine other_fine same = absurd (omega (arith, many))
  rows_read indent (r ∷ rows) [] rest more many fine other_fine same = absurd (omega (arith, many))
  rows_read indent (r ∷ rows) (o ∷ others) rest more many fine other_fine same =
      let lines = flat_map (leaf_row_line row_text indent) rows in
      let other_lines = flat_map (leaf_row_line row_text indent) others in
      let one = row_read indent r o (lines ++ rest) (other_lines ++ more) fine.stand.0 other_fine.stand.0 fine.bytes.0 other_fine.bytes.0
      (sym (append_assoc (leaf_row_line row_text indent r) lines rest) ∙ same ∙ append_assoc (leaf_row_line row_text indent o) other_lines more) in
      let all = rows_read indent rows others rest more (omega (arith, many)) (record { stand = fine.stand.1; bytes = fine.bytes.1 }) (record {
        stand =
            other_fine.stand.1;
        bytes = other_fine.bytes.1;
      }) one.1 in
      (λ i. one.0 i ∷ all.0 i, all.1)

-- ---- nodes

module _ {D : Type 0} (delta_text : D → List ℕ) (effect : Option (List Value) → Message (List Value) D → Option (List Value)) (weigh : Key
    × Message (List Value) D → ℕ) (shape other_shape : Shape) (schema : Schema) where
  abbrev RowNode : Type 0
  RowNode = Tree (List Value) (Message (List Value) D)

  abbrev RowNodes : Type 0
  RowNodes = Nodes (List Value) (Message (List Value) D)

  leaf_is : (indent : List ℕ) (rows : RowMap) (rest : List ℕ) → node_text row_text delta_text indent (leaf rows) ++ rest
      ≡ indent ++ (codes "leaf " ++ (decimal (length rows) ++ 10 ∷ (flat_map (leaf_row_line row_text (deeper indent)) rows ++ rest)))
  leaf_is indent rows rest =
      let lines = flat_map (leaf_row_line row_text (deeper indent)) rows in
      append_assoc (leaf_line indent (length rows)) lines rest
      ∙ append_assoc indent (codes "leaf " ++ (decimal (length rows) ++ 10 ∷ [])) (lines ++ rest)
      ∙ ap (λ (t : List ℕ). indent ++ (codes "leaf " ++ t)) (append_assoc (decimal (length rows)) (10 ∷ []) (lines ++ rest))

  inner_is : (indent : List ℕ) (ns : RowNodes) (rest : List ℕ) → node_text row_text delta_text indent (inner ns []) ++ rest
      ≡ indent ++ (codes "inner " ++ (decimal (length (children ns)) ++ 32 ∷ (decimal 0 ++ 10 ∷ (children_text row_text delta_text (deeper indent) ns ++ rest))))
  inner_is indent ns rest =
      let below = children_text row_text delta_text (deeper indent) ns in
      append_assoc (inner_line indent (length (children ns)) 0) below rest
      ∙ append_assoc indent (codes "inner " ++ (decimal (length (children ns)) ++ 32 ∷ (decimal 0 ++ 10 ∷ []))) (below ++ rest)
      ∙ ap (λ (t : List ℕ). indent ++ (codes "inner " ++ t)) (append_assoc (decimal (length (children ns))) (32 ∷ (decimal 0 ++ 10 ∷ [])) (below ++ rest)
      ∙ ap (λ (t : List ℕ). decimal (length (children ns)) ++ 32 ∷ t) (append_assoc (decimal 0) (10 ∷ []) (below ++ rest)))

  pivot_is : (indent : List ℕ) (pivot : Key) (rest : List ℕ) → pivot_line indent pivot ++ rest ≡ indent ++ (124 ∷ 32 ∷ (hex_text pivot ++ 10 ∷ rest))
  pivot_is indent pivot rest = append_assoc (indent ++ (124 ∷ 32 ∷ hex_text pivot)) (10 ∷ []) rest ∙ append_assoc indent (124 ∷ 32 ∷ hex_text pivot) (10 ∷ rest)

  empty_is : (indent : List ℕ) (ns : RowNodes) (b : Messages (Message (List Value) D)) (rest : List ℕ) → b ≡ [] → node_text row_text delta_text indent (inner ns b) ++ rest
      ≡ indent ++ (codes "inner " ++ (decimal (length (children ns)) ++ 32 ∷ (decimal 0 ++ 10 ∷ (children_text row_text delta_text (deeper indent) ns ++ rest))))
  empty_is indent ns b rest empty = ap (λ (ms : Messages (Message (List Value) D)). node_text row_text delta_text indent (inner ns ms) ++ rest) empty ∙ inner_is indent ns rest

  -- a leaf is not an inner node
  apart : (indent : List ℕ) (rows : RowMap) (ns : RowNodes) (b : Messages (Message (List Value) D)) (rest more : List ℕ) → b ≡ []
      → node_text row_text delta_text indent (leaf rows) ++ rest ≡ node_text row_text delta_text indent (inner ns b) ++ more → ⊥
  apart indent rows ns b rest more empty same =
      let text = cancelled indent _ _ (sym (leaf_is indent rows rest) ∙ same ∙ empty_is indent ns b more empty) in
      let first : 108 ≡ 105 = ap (first_of 0) text in
      omega (arith, first)
    where
      first_of : ℕ → List ℕ → ℕ
      first_of other [] = other
      first_of other (b ∷ bytes) = b

  image_is : (name : List ℕ) (t : RowNode) → image_text row_text delta_text name t
      ≡ codes "image " ++ (name ++ (codes " height " ++ (decimal (min (height t) (2 ^ 64 - 1)) ++ 10 ∷ (node_text row_text delta_text [] t ++ codes "end\n"))))
  image_is name t =
      let text = node_text row_text delta_text [] t ++ codes "end\n" in
      let high = decimal (min (height t) (2 ^ 64 - 1)) in
      ap (λ (x : List ℕ). codes "image " ++ x) (append_assoc name (codes " height " ++ (high ++ 10 ∷ [])) text
      ∙ ap (λ (x : List ℕ). name ++ (codes " height " ++ x)) (append_assoc high (10 ∷ []) text))

  module _ (some : 1 ≤ length schema.columns) (small_leaf : shape.leaf < 2 ^ 64) (small_fanout : shape.fanout < 2 ^ 64) (other_leaf
      : other_shape.leaf < 2 ^ 64) (other_fanout : other_shape.fanout < 2 ^ 64) where
    mutual
      node_read : (indent : List ℕ) (t u : RowNode) (rest more : List ℕ) → IsDry t → IsDry u → IsSized weigh shape t → IsSized weigh other_shape u
          → AreFine schema (holds effect t) → AreFine schema (holds effect u)
          → node_text row_text delta_text indent t ++ rest ≡ node_text row_text delta_text indent u ++ more → (holds effect t ≡ holds effect u) × (rest ≡ more)
      node_read indent (leaf rows) (leaf others) rest more dry other_dry sized other_sized fine other_fine same =
          let text = cancelled (codes "leaf ") _ _ (cancelled indent _ _ (sym (leaf_is indent rows rest) ∙ same ∙ leaf_is indent others more)) in
          let count = decimal_read 10 (length rows) (length others) _ _ (omega arith) (omega (arith, sized, small_leaf)) (omega (arith, other_sized, other_leaf)) text in
          rows_read schema some (deeper indent) rows others rest more count.0 fine other_fine count.1
      node_read indent (leaf rows) (inner ms d) rest more dry other_dry sized other_sized fine other_fine same = absurd (apart indent rows ms d rest more other_dry.0 same)
      node_read indent (inner ns b) (leaf others) rest more dry other_dry sized other_sized fine other_fine same = absurd (apart indent others ns b more rest dry.0 (sym same))
      node_read indent (inner ns b) (inner ms d) rest more dry other_dry sized other_sized fine other_fine same =
          let text = cancelled (codes "inner ") _ _ (cancelled indent _ _ (sym (empty_is indent ns b rest dry.0) ∙ same ∙ empty_is indent ms d more other_dry.0)) in
          let count = decimal_read 32 (length (children ns)) (length (children ms)) _ _ (omega arith) (omega (arith, sized.1, small_fanout)) (omega (arith, other_sized.1, other_fanout)) text in
          let below = cancelled (10 ∷ []) _ _ (cancelled (decimal 0) _ _ count.1) in
          let held : holds effect (inner ns b) ≡ nodes_hold effect ns = ap (λ ms. rows_after effect ms (nodes_hold effect ns)) dry.0 in
          let other_held : holds effect (inner ms d) ≡ nodes_hold effect ms = ap (λ ds. rows_after effect ds (nodes_hold effect ms)) other_dry.0 in
          let all = children_read (deeper indent) ns ms rest more count.0 dry.1 other_dry.1 sized.3 other_sized.3 (subst (AreFine schema) held fine)
          (subst (AreFine schema) other_held other_fine) below in
          (held ∙ all.0 ∙ sym other_held, all.1)

      children_read : (indent : List ℕ) (ns ms : RowNodes) (rest more : List ℕ) → length (children ns) ≡ length (children ms) → AreDry ns → AreDry ms
          → AreSized weigh shape ns → AreSized weigh other_shape ms
          → AreFine schema (nodes_hold effect ns) → AreFine schema (nodes_hold effect ms)
          → children_text row_text delta_text indent ns ++ rest ≡ children_text row_text delta_text indent ms ++ more → (nodes_hold effect ns ≡ nodes_hold effect ms) × (rest ≡ more)
      children_read indent none none rest more many dry other_dry sized other_sized fine other_fine same = (refl, same)
      children_read indent none (node j u ms) rest more many dry other_dry sized other_sized fine other_fine same = absurd (omega (arith, many))
      children_read indent (node k t ns) none rest more many dry other_dry sized other_sized fine other_fine same = absurd (omega (arith, many))
      children_read indent (node k t ns) (node j u ms) rest more many dry other_dry sized other_sized fine other_fine same =
          let others = others_text row_text delta_text indent ns in
          let other_others = others_text row_text delta_text indent ms in
          let one = node_read indent t u (others ++ rest) (other_others ++ more) dry.0 other_dry.0 sized.0 other_sized.0
          (fine-first schema (holds effect t) (nodes_hold effect ns) fine) (fine-first schema (holds effect u) (nodes_hold effect ms) other_fine)
          (sym (append_assoc (node_text row_text delta_text indent t) others rest) ∙ same ∙ append_assoc (node_text row_text delta_text indent u) other_others more) in
          let all = others_read indent ns ms rest more (omega (arith, many)) dry.1 other_dry.1 sized.1 other_sized.1
          (fine-rest schema (holds effect t) (nodes_hold effect ns) fine) (fine-rest schema (holds effect u) (nodes_hold effect ms) other_fine) one.1 in
          (λ i. one.0 i ++ all.0 i, all.1)

      others_read : (indent : List ℕ) (ns ms : RowNodes) (rest more : List ℕ) → length (children ns) ≡ length (children ms) → AreDry ns → AreDry ms
          → AreSized weigh shape ns → AreSized weigh other_shape ms
          → AreFine schema (nodes_hold effect ns) → AreFine schema (nodes_hold effect ms)
          → others_text row_text delta_text indent ns ++ rest ≡ others_text row_text delta_text indent ms ++ more → (nodes_hold effect ns ≡ nodes_hold effect ms) × (rest ≡ more)
      others_read indent none none rest more many dry other_dry sized other_sized fine other_fine same = (refl, same)
      others_read indent none (node j u ms) rest more many dry other_dry sized other_sized fine other_fine same = absurd (omega (arith, many))
      others_read indent (node k t ns) none rest more many dry other_dry sized other_sized fine other_fine same = absurd (omega (arith, many))
      others_read indent (node k t ns) (node j u ms) rest more many dry other_dry sized other_sized fine other_fine same =
          let others = others_text row_text delta_text indent ns in
          let other_others = others_text row_text delta_text indent ms in
          let own_text = node_text row_text delta_text indent t in
          let other_text = node_text row_text delta_text indent u in
          let line = cancelled (124 ∷ 32 ∷ []) _ _ (cancelled indent _ _
          (sym (append_assoc (pivot_line indent k) (own_text ++ others) rest ∙ pivot_is indent k ((own_text ++ others) ++ rest)) ∙ same
          ∙ (append_assoc (pivot_line indent j) (other_text ++ other_others) more ∙ pivot_is indent j ((other_text ++ other_others) ++ more)))) in
          let cut = cut_alike 10 (hex_text k) (hex_text j) _ _ (hex_is_not 10 (omega arith) k) (hex_is_not 10 (omega arith) j) line in
          let one = node_read indent t u (others ++ rest) (other_others ++ more) dry.0 other_dry.0 sized.0 other_sized.0
          (fine-first schema (holds effect t) (nodes_hold effect ns) fine) (fine-first schema (holds effect u) (nodes_hold effect ms) other_fine)
          (sym (append_assoc own_text others rest) ∙ cut.left ∙ append_assoc other_text other_others more) in
          let all = others_read indent ns ms rest more (omega (arith, many)) dry.1 other_dry.1 sized.1 other_sized.1
          (fine-rest schema (holds effect t) (nodes_hold effect ns) fine) (fine-rest schema (holds effect u) (nodes_hold effect ms) other_fine) one.1 in
          (λ i. one.0 i ++ all.0 i, all.1)

    -- the trees of two images
    pub image_rows : (name : List ℕ) (t u : RowNode) → IsDry t → IsDry u → IsSized weigh shape t → IsSized weigh other_shape u → AllStand schema (holds effect t) → AllStand schema (holds effect u)
        → AllByRecursion (λ row. AllByRecursion HasOnlyBytes row.1) (holds effect t) → AllByRecursion (λ row. AllByRecursion HasOnlyBytes row.1) (holds effect u)
        → image_text row_text delta_text name t ≡ image_text row_text delta_text name u → holds effect t ≡ holds effect u
    image_rows name t u dry other_dry sized other_sized stand other_stand bytes other_bytes same =
        let line = cancelled (codes " height ") _ _ (cancelled name _ _ (cancelled (codes "image ") _ _ (sym (image_is name t) ∙ same ∙ image_is name u))) in
        let text = decimal_read 10 (min (height t) (2 ^ 64 - 1)) (min (height u) (2 ^ 64 - 1)) _ _ (omega arith) (omega arith) (omega arith) line in
        (node_read [] t u (codes "end\n") (codes "end\n") dry other_dry sized other_sized (record { stand = stand; bytes = bytes }) (record { stand = other_stand; bytes = other_bytes }) text.1).0
