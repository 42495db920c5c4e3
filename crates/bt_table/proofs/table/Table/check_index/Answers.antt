use Rattle.std.proofs.Common.{rules, ◌≡◌, ◌∙◌, Option, Some, None, ap, arith, false, is_some, length, nat_le, option_map, refl, sym, true}
use Rattle.std.proofs.lemmas.Bool.Decides.{nat_tests}
use Rattle.bt_value.specs.Refusals.{lowest}
use Rattle.bt_value.specs.declared.refusal.Refusal.TheVariants.{TooMany}
use Rattle.bt_value.specs.Results.{one_if}
use Rattle.bt_table.specs.Calls.{most_indexes}
use Rattle.bt_table.specs.Indexes.{index_named, indexes_of}
use Rattle.bt_table.proofs.Steps.{refused_by_number}
use Rattle.bt_table.proofs.table.Table.check_index.Goals as goal

is_some-map : {A B : Type 0} (f : A → B) (o : Option A) → is_some (option_map f o) ≡ is_some o
is_some-map f None = refl
is_some-map f (Some x) = refl

pub returns-then-is_full-clause-refused : goal.returns-then-is_full-clause-refused
returns-then-is_full-clause-refused c =
    let long : c.len-is_full.result ≡ length c.self.inside.heads.items = search rules in
    let many : nat_le most_indexes (length c.self.inside.heads.items) ≡ true = grind (arith, nat_tests) in
    let free : is_some (index_named c.args.name.now (indexes_of c.self.inside.heads.items c.in-Some.trees.entries.items)) ≡ false =
    rw (c.as_slice.ensures.value, c.as_slice-2.ensures.value) at (sym (ap is_some c.find_index-found.ensures.found) ∙ is_some-map _ c.find_index-found.result ∙ sym c.if-is_some.ensures) in
    refused_by_number c.self.inside.schema c.self.inside.heads.items c.self.inside.trees c.in-Some.trees c.in-Some.is c.self.invariant c.args.self.now
    c.self.view_is c.args.name.now (sym c.if-is_name_of_rows.ensures) free ∙ ap (λ b. lowest (one_if b TooMany)) many

pub returns-clause-free : goal.returns-clause-free
returns-clause-free c =
    let long : c.len-is_full.result ≡ length c.self.inside.heads.items = search rules in
    let few : nat_le most_indexes (length c.self.inside.heads.items) ≡ false = grind (arith, nat_tests) in
    let free : is_some (index_named c.args.name.now (indexes_of c.self.inside.heads.items c.in-Some.trees.entries.items)) ≡ false =
    rw (c.as_slice.ensures.value, c.as_slice-2.ensures.value) at (sym (ap is_some c.find_index-found.ensures.found) ∙ is_some-map _ c.find_index-found.result ∙ sym c.if-is_some.ensures) in
    refused_by_number c.self.inside.schema c.self.inside.heads.items c.self.inside.trees c.in-Some.trees c.in-Some.is c.self.invariant c.args.self.now
    c.self.view_is c.args.name.now (sym c.if-is_name_of_rows.ensures) free ∙ ap (λ b. lowest (one_if b TooMany)) few
