-- Facts about portions of trees, for code that reads them side by side.
pub use Rattle.bt_read.proofs.lemmas.code.PortionSteps.{all_rows-append, chained-append, chained-split, have-append, have-first, have-second, owners-append}
pub use Rattle.bt_form.proofs.offered.rows.Between.{between-all}
pub use Rattle.bt_keycode.proofs.offered.Truths.{true_t}
pub use Rattle.bt_read.proofs.lemmas.code.RowsShown.{copied_all}
