-- Facts about sound tables: the keys of their rows strictly rise, an index that a name finds is sound, and a complete index holds what its definition selects.
pub use Rattle.bt_table.proofs.Indexes.{holds_selection, sound-found}
pub use Rattle.bt_table.proofs.Sound.{rows_sorted}
