use Rattle.std.proofs.Common.{◌≡◌, ◌∙◌, ap₂, codes, false, rules}
use Rattle.std.proofs.lemmas.Result.{IfOk-weaker}
use Rattle.clap.specs.Words.{AddsArg, App, Rule, app_of, new_app, rule_of, with_rule}
use Rattle.clap.specs.declared.builder.arg.Arg.{Arg}
use Rattle.clap.specs.declared.builder.command.Command.{Command}
use Rattle.bt_engine.proofs.arguments.command.Goals as goal

-- one more argument is one more rule
with_arg : (old new : Command) (a : Arg) (app : App) (rule : Rule) → app_of old ≡ app → rule_of a ≡ rule → a.global ≡ false → AddsArg old a new
    → app_of new ≡ with_rule app rule
with_arg old new a app rule is rule_is local added = added.shape local ∙ ap₂ with_rule is rule_is

pub returns : goal.returns
returns c =
    let empty : app_of c.after_help.result ≡ new_app (codes "betable_engine") = search rules in
    let workers = with_arg _ _ _ _ _ empty c.number_option.ensures.rule c.number_option.ensures.local c.in_ok-arg.ensures in
    let cut = with_arg _ _ _ _ _ workers c.number_option-2.ensures.rule c.number_option-2.ensures.local c.in_ok-arg-2.ensures in
    let grain = with_arg _ _ _ _ _ cut c.number_option-3.ensures.rule c.number_option-3.ensures.local c.in_ok-arg-3.ensures in
    let most = with_arg _ _ _ _ _ grain c.number_option-4.ensures.rule c.number_option-4.ensures.local c.in_ok-arg-4.ensures in
    IfOk-weaker c.arg-5.result _ _ (λ command. with_arg _ command _ _ _ most c.option.ensures.rule c.option.ensures.local) c.arg-5.ensures
