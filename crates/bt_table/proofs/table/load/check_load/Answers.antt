use Rattle.std.proofs.Common.{◌≡◌, ◌∙◌, ◌++◌, Bool, Some, ap, false, not, refl, sym, true}
use Rattle.std.specs.List.{list_all}
use Rattle.bt_value.specs.Refusals.{lowest}
use Rattle.bt_value.specs.declared.refusal.Refusal.TheVariants.{Building, NotEmpty}
use Rattle.bt_value.specs.Results.{one_if}
use Rattle.bt_table.specs.Calls.{is_bare}
use Rattle.bt_table.specs.Indexes.{indexes_of, is_complete}
use Rattle.bt_table.proofs.Indexes.{complete_are}
use Rattle.bt_table.proofs.table.load.check_load.Goals as goal

-- `Building` comes before `NotEmpty`
building_first : (bare : Bool) → lowest (one_if true Building ++ one_if (not bare) NotEmpty) ≡ Some Building
building_first true = refl
building_first false = refl

pub returns-then-not-are_complete-clause-refused : goal.returns-then-not-are_complete-clause-refused
returns-then-not-are_complete-clause-refused c =
    let bare = is_bare c.args.trees.now.rows.1 in
    let building : list_all is_complete (indexes_of c.args.heads.now c.args.trees.now.entries.items) ≡ false =
    sym (complete_are c.args.heads.now c.args.trees.now.entries.items c.requires) ∙ sym c.if-not-are_complete.ensures in
    ap (λ b. lowest (one_if (not b) Building ++ one_if (not bare) NotEmpty)) building ∙ building_first bare

-- no index is building
all_complete : (complete bare : Bool) → complete ≡ true → lowest (one_if (not complete) Building ++ one_if (not bare) NotEmpty) ≡ lowest (one_if (not bare) NotEmpty)
all_complete complete bare is = ap (λ b. lowest (one_if (not b) Building ++ one_if (not bare) NotEmpty)) is

pub returns-then-not-is_bare-clause-refused : goal.returns-then-not-is_bare-clause-refused
returns-then-not-is_bare-clause-refused c =
    let complete : list_all is_complete (indexes_of c.args.heads.now c.args.trees.now.entries.items) ≡ true =
    sym (complete_are c.args.heads.now c.args.trees.now.entries.items c.requires) ∙ sym c.if-not-are_complete.ensures in
    all_complete _ (is_bare c.args.trees.now.rows.1) complete ∙ ap (λ b. lowest (one_if (not b) NotEmpty)) (sym c.if-not-is_bare.ensures)

pub returns-clause-free : goal.returns-clause-free
returns-clause-free c =
    let complete : list_all is_complete (indexes_of c.args.heads.now c.args.trees.now.entries.items) ≡ true =
    sym (complete_are c.args.heads.now c.args.trees.now.entries.items c.requires) ∙ sym c.if-not-are_complete.ensures in
    all_complete _ (is_bare c.args.trees.now.rows.1) complete ∙ ap (λ b. lowest (one_if (not b) NotEmpty)) (sym c.if-not-is_bare.ensures)
