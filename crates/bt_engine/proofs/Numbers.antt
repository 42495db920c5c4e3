-- What clap has read of an option that takes a whole number.
use Rattle.std.proofs.Common.{◌≡◌, ◌⊎◌, ◌∙◌, ◌<◌, ◌≤◌, ◌||◌, ap, ℕ, true, false, List, [], ◌∷◌, length, map, Option, Some, None, refl, sym, subst, inl, inr, arith, codes, true≢false}
use Rattle.std.specs.Borrow.{Bor}
use Rattle.std.specs.List.{All, slice_index_or}
use Rattle.std.specs.Prelude.{Result, unwrap_or}
use Rattle.std.specs.Str.{bytes_eq}
use Rattle.std.specs.Str.Parse.{ExplainsUnsignedError, HasUnsignedDigitsIfOk, ParsesUnsigned}
use Rattle.std.specs.declared.num.ParseIntError.{ParseIntError}
use Rattle.std.proofs.lemmas.Bool.{cases_lt}
use Rattle.std.proofs.lemmas.List.{get_or-map, length-map}
use Rattle.std.proofs.lemmas.List.Elements.{All-from_recursion, All-head}
use Rattle.std.proofs.lemmas.Slice.Eq.{bytes_eq-Decides}
use Rattle.clap.specs.Built.{IsAuto, SameRules}
use Rattle.clap.specs.Facts.{Entry, EntryPasses, HasReading, PassesArg, ValuesPass, parser_of_value}
use Rattle.clap.specs.Words.{App, IsParsedFrom, IsUnsignedIn, ReadsOne, Rule, Text, app_of, args_of, first_of, first_value}
use Rattle.clap.specs.Words.{found_of, groups_of, matched_of, one_text, parser_of, reading_of, rows_of, rule_of}
use Rattle.clap.specs.declared.builder.arg.Arg.{Arg}
use Rattle.clap.specs.declared.builder.command.Command.{Command}
use Rattle.clap.specs.declared.builder.value_parser.Reading.TheVariants.{AsWritten}
use Rattle.clap.specs.declared.builder.value_parser.ValueParser.TheVariants.{Unsigned}
use Rattle.clap.specs.declared.parser.matches.ArgMatches.{ArgMatches}
use Rattle.clap.specs.declared.parser.matches.Found.{Found}
use Rattle.clap.specs.declared.parser.matches.MatchedArg.{MatchedArg}
use Rattle.clap.proofs.CallerLemmas.{entry_by_id}
use Rattle.clap.proofs.SimpleLemmas.{HasPlainFields, all_simple, plain_fields, simple_groups}
use Rattle.clap.proofs.WalkLemmas.{first_value-rows}
use Rattle.bt_gang.specs.declared.crew.TheConstants.{DEEPEST_CUT, LARGEST_GRAIN, MOST_WORKERS}
use Rattle.bt_engine.specs.Options.{betable_engine, largest_most, number_given, options, rows_of_arguments}

-- an option of this name takes a whole number from 1 to `most`
abbrev pub HasLimit : Text → ℕ → Rule → Type 0
HasLimit name most rule = bytes_eq rule.id name ≡ true → rule.parser ≡ Some (Unsigned 1 most)

-- the options of this name take a whole number from 1 to `most`, and clap adds none
pub record IsNumberOption (name : Text) (most : ℕ) : Type 0 where
  pub limit : All (HasLimit name most) options
  pub own : (bytes_eq name (codes "help") || bytes_eq name (codes "version")) ≡ false
  pub named : name ≡ [] → ⊥

other : {A : Type 0} → false ≡ true → A
other e = absurd (true≢false (sym e))

pub workers_option : IsNumberOption (codes "workers") MOST_WORKERS
workers_option = record {
  limit = All-from_recursion (HasLimit (codes "workers") MOST_WORKERS) options ((λ e. refl), (other, (other, (other, (other, tt)))));
  own = refl;
  named = λ e. cc;
}

pub cut_option : IsNumberOption (codes "cut") DEEPEST_CUT
cut_option = record {
  limit = All-from_recursion (HasLimit (codes "cut") DEEPEST_CUT) options (other, ((λ e. refl), (other, (other, (other, tt)))));
  own = refl;
  named = λ e. cc;
}

pub grain_option : IsNumberOption (codes "grain") LARGEST_GRAIN
grain_option = record {
  limit = All-from_recursion (HasLimit (codes "grain") LARGEST_GRAIN) options (other, (other, ((λ e. refl), (other, (other, tt)))));
  own = refl;
  named = λ e. cc;
}

pub most_option : IsNumberOption (codes "most-frame") largest_most
most_option = record {
  limit = All-from_recursion (HasLimit (codes "most-frame") largest_most) options (other, (other, (other, ((λ e. refl), (other, tt)))));
  own = refl;
  named = λ e. cc;
}

-- the entry of a name in a command with no group is that of an argument: its values passed the parser, and are read by it
record IsOfArgument (command : Command) (name : Text) (entry : MatchedArg) : Type 0 where
  pub values : All (λ v. PassesArg command name v.now) entry.vals.items
  pub reading : HasReading command name entry.reading

argument_of : (command : Command) (name : Text) (e : Entry) → groups_of command ≡ [] → (name ≡ [] → ⊥) → e.0.now ≡ name → EntryPasses command e
    → IsOfArgument command name e.1
argument_of command name e no_groups named key pass =
    let no_group : e.1.is_group ≡ true → ⊥ = λ g. elim (pass.3 g) [
      | inl empty ↦ named (sym key ∙ empty)
      | inr some ↦
          let bad : 0 < 0 = rw no_groups at some in
          absurd (omega arith)
    ] in
    record {
      values = elim pass.0 [
        | inl g ↦ absurd (no_group g)
        | inr values ↦ subst (λ (w : Text). All (λ v. PassesArg command w v.now) e.1.vals.items) key values
      ];
      reading = elim pass.4 [ inl g ↦ absurd (no_group g) | inr h ↦ subst (λ (w : Text). HasReading command w e.1.reading) key h ];
    }

entry_of : (command : Command) (found : Found) (name : Text) (entry : MatchedArg) → groups_of command ≡ [] → (name ≡ [] → ⊥) → ValuesPass command found
    → matched_of found name ≡ Some entry → IsOfArgument command name entry
entry_of command found name entry no_groups named pass is =
    let e = entry_by_id (EntryPasses command) found.entries.items name entry pass is in
    subst (IsOfArgument command name) e.1 (argument_of command name e.0 no_groups named ((bytes_eq-Decides e.0.0.now name).0 e.2) e.3)

module _ (command : Command) (matches : ArgMatches) (parse : IsParsedFrom command matches) (is : app_of command ≡ betable_engine)
    (name : Text) (most : ℕ) (option : IsNumberOption name most) where
  not_added : (a : Arg) → IsAuto a → a.id.now ≡ name → ⊥
  not_added a (inl help) same = true≢false (rw (← same, help) at option.own)
  not_added a (inr version) same = true≢false (rw (← same, version) at option.own)

  -- an argument of the built command with this name has the option's parser
  parser_at : (i : ℕ) (a : Arg) → i < length (args_of parse.built) → slice_index_or (args_of parse.built) i a ≡ a → bytes_eq a.id.now name ≡ true
      → parser_of a ≡ Unsigned 1 most
  parser_at i a lt at same =
      let rules_are : map rule_of (args_of command) ≡ options = ap (λ (app : App). app.top.rules) is in
      let count : length (args_of command) ≡ length options = sym (length-map (args_of command) rule_of) ∙ ap length rules_are in
      elim (cases_lt i (length (args_of command))) [
        | inl given ↦
            let first = slice_index_or (args_of command) i a in
            let kept = subst (SameRules first) at (parse.from.kept i a given).1 in
            let rule : slice_index_or options i (rule_of a) ≡ rule_of first =
            ap (λ (l : List Rule). slice_index_or l i (rule_of a)) (sym rules_are) ∙ get_or-map rule_of (args_of command) i a (rule_of a) given in
            let within : i < length options = omega arith in
            let id : bytes_eq first.id.now name ≡ true = subst (λ (w : Bor Text). bytes_eq w.now name ≡ true) kept.id same in
            let parser : first.value_parser ≡ Some (Unsigned 1 most) = subst (HasLimit name most) rule (option.limit i (rule_of a) within) id in
            ap parser_of_value (kept.parser _ parser)
        | inr added ↦ absurd (not_added a (subst IsAuto at (parse.from.extra i a added lt)) ((bytes_eq-Decides a.id.now name).0 same))
      ]

  plain : HasPlainFields command
  plain = plain_fields command (ap (λ (app : App). app.top.is_plain) is)

  no_groups : groups_of parse.built ≡ []
  no_groups = (parse.from.same_groups (simple_groups command (ap (λ (app : App). all_simple app.top.rules) is))).1 ∙ plain.groups

  -- nothing is found, or a whole number within the limits that is read unchanged
  abbrev IsFound : Type 0
  IsFound = ((one_text (found_of matches) name ≡ None) × (first_value (found_of matches) name ≡ None))
      ⊎ ((t : Text) × IsUnsignedIn 1 most t × (one_text (found_of matches) name ≡ Some t) × (first_value (found_of matches) name ≡ Some t))

  found_in : (entry : MatchedArg) (values : List (Bor Text)) → matched_of (found_of matches) name ≡ Some entry → entry.vals.items ≡ values
      → entry.reading ≡ AsWritten → All (λ v. PassesArg parse.built name v.now) values → IsFound
  found_in entry [] is_entry are as_written pass = inl (rw (is_entry, are) refl, rw (is_entry, are) refl)
  found_in entry (v ∷ vs) is_entry are as_written pass =
      let h = All-head (λ w. PassesArg parse.built name w.now) v vs pass in
      let parser = parser_at h.0 h.1 h.2 h.3 h.4.0 in
      inr (v.now, rw parser at h.4.1, rw (is_entry, are, as_written) refl, rw (is_entry, are) refl)

  number_found : IsFound
  number_found = go (matched_of (found_of matches) name) refl
    where
      go : (o : Option MatchedArg) → matched_of (found_of matches) name ≡ o → IsFound
      go None e = inl (rw e refl, rw e refl)
      go (Some entry) e =
          let values = (parse.parsed (parse.from.globals ∙ plain.globals)).values in
          let argument = entry_of parse.built (found_of matches) name entry no_groups option.named values e in
          let h = argument.reading in
          found_in entry entry.vals.items e refl (sym h.4.1 ∙ ap reading_of (parser_at h.0 h.1 h.2 h.3 h.4.0)) argument.values

-- how `get_one` reads a text as a `usize`
abbrev pub ReadsNumber : Text → Result ℕ ParseIntError → Type 0
ReadsNumber text r = ParsesUnsigned 64 10 text r × ExplainsUnsignedError 10 text r × HasUnsignedDigitsIfOk text r

-- the arguments give the number n, from 1 to `most`, by an option or by its default
abbrev pub IsNumberGiven : List Text → Text → ℕ → ℕ → ℕ → Type 0
IsNumberGiven arguments name most default n = (n ≡ number_given name default arguments) × ((1 ≤ n) × (n ≤ most))

module _ (arguments : List Text) (matches : ArgMatches) (rows : rows_of (found_of matches) ≡ rows_of_arguments arguments)
    (parsed : (command : Command) × (app_of command ≡ betable_engine) × IsParsedFrom command matches) where
  -- what `get_one` reads, or else the default, is the number that the arguments give
  pub number_read : (name : Text) (most : ℕ) → IsNumberOption name most → (default : ℕ) → 1 ≤ default → default ≤ most → (r : Option ℕ)
      → (one_text (found_of matches) name ≡ None → r ≡ None) → ((t : Text) → one_text (found_of matches) name ≡ Some t → ReadsOne ReadsNumber t r)
      → (n : ℕ) → n ≡ unwrap_or r default → IsNumberGiven arguments name most default n
  number_read name most option default lowest fits r none some n is =
      let texts : first_value (found_of matches) name ≡ first_of name (rows_of_arguments arguments) =
      first_value-rows (found_of matches) name ∙ ap (first_of name) rows in
      subst (IsNumberGiven arguments name most default) (sym is) (elim (number_found parsed.0 matches parsed.2 parsed.1 name most option) [
        | inl absent ↦
            let no : r ≡ None = none absent.0 in
            rw (no, ← texts, absent.1) (refl, (lowest, fits))
        | inr there ↦ go there.0 (sym texts ∙ there.3) there.1 r (some there.0 there.2)
      ])
    where
      go : (t : Text) → first_of name (rows_of_arguments arguments) ≡ Some t → IsUnsignedIn 1 most t → (o : Option ℕ) → ReadsOne ReadsNumber t o
          → IsNumberGiven arguments name most default (unwrap_or o default)
      go t text within (Some v) h = rw text (h.0.1, (rw h.0.1 within.2, rw h.0.1 within.3))
      go t text within None h = absurd (h.1.0 (within.0, within.1))
