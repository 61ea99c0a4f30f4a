-- The options of a command, and the numbers that they give.
use Rattle.std.proofs.Common.{arith}
use Rattle.std.proofs.lemmas.Grind.{common_steps}
use Rattle.std.proofs.Common.{◌≡◌, ◌∙◌, ◌+◌, ◌<◌, ◌&&◌, ap, refl, ℕ, get_or, take, Bool, true, false, not, List, [], ◌∷◌, length, Option, Some, None, nat_lt, lt-ltb, pos}
use Rattle.std.specs.Prelude.{Result, Ok, Err, option_and_then, option_map, unwrap_or}
use Rattle.std.specs.Borrow.{Bor}
use Rattle.std.specs.Char.{digit_value}
use Rattle.std.specs.List.{list_all}
use Rattle.std.specs.Str.Parse.{AllDigits, ParsesUnsigned}
use Rattle.std.proofs.lemmas.Bool.{and_parts, not-true}
use Rattle.std.proofs.lemmas.List.Sums.{fold_more}
use Rattle.clap.specs.Words.{App, Text, new_app, with_rule, with_subcommand}
use Rattle.clap.specs.Matches.{ReadsOne}
use Rattle.arguments.specs.Arguments.{device_rule, number_of, rule_within}
use Rattle.arguments.specs.Tables.{CommandRow, OptionRow, command_app, with_commands, with_options}

-- a command that is plain (`is_plain` of the definitions of `clap`, not the command `plain`) has no global argument
pub no_globals : (groups external globals rest : Bool) → (groups && (external && (not globals && rest))) ≡ true → globals ≡ false
no_globals groups external globals rest plain = not-true _ (and_parts _ _ (and_parts _ _ (and_parts _ _ plain).1).1).0

-- a command with an option added stays plain in that sense
options_are_plain : (options : List OptionRow) (a : App) → (with_options a options).top.is_plain ≡ a.top.is_plain
options_are_plain [] a = refl
options_are_plain (option ∷ options) a = options_are_plain options (with_rule a (rule_within option.0.now (pos option.2) (pos option.3)))

row_is_plain : (name : Text) (has_device : Bool) (options : List OptionRow) → (command_app name has_device options).top.is_plain ≡ true
unfolding command_app
row_is_plain name true options = options_are_plain options (with_rule (new_app name) device_rule)
row_is_plain name false options = options_are_plain options (new_app name)

pub is_plain_in_row : {a : App} (name : Text) (has_device : Bool) (options : List OptionRow) → a ≡ command_app name has_device options → a.top.is_plain ≡ true
is_plain_in_row name has_device options is = ap (λ (a : App). a.top.is_plain) is ∙ row_is_plain name has_device options

-- one more option, and one more command
pub one_more_option : (a : App) (options : List OptionRow) (i : ℕ) (d : OptionRow) → i < length options → with_options a (take (i + 1) options)
    ≡ with_rule (with_options a (take i options)) (rule_within (get_or options i d).0.now (pos (get_or options i d).2) (pos (get_or options i d).3))
one_more_option a options i d lt = fold_more (λ b option. with_rule b (rule_within option.0.now (pos option.2) (pos option.3))) a options i d lt

pub one_more_command : (a : App) (rows : List CommandRow) (i : ℕ) (d : CommandRow) → i < length rows → with_commands a (take (i + 1) rows)
    ≡ with_subcommand (with_commands a (take i rows)) (command_app (get_or rows i d).0.now (get_or rows i d).2 (get_or rows i d).3.now).top
one_more_command a rows i d lt = fold_more (λ b row. with_subcommand b (command_app row.0.now row.2 row.3.now).top) a rows i d lt

-- the text that is given, or none
pub unwrap_or-now : (given : Option (Bor (List ℕ))) (none : Bor (List ℕ)) → none.now ≡ [] → (unwrap_or given none).now ≡ unwrap_or (option_map (λ s. s.now) given) []
unwrap_or-now None none empty = empty
unwrap_or-now (Some text) none empty = refl

-- ---- a number as text

are_digits : (ds : List ℕ) → AllDigits 10 ds → list_all (λ d. nat_lt (digit_value d) 10) ds ≡ true
are_digits [] h = refl
are_digits (d ∷ ds) h = rw (lt-ltb (digit_value d) 10 h.0) (are_digits ds h.1)

digits_from : (ds : List ℕ) → list_all (λ d. nat_lt (digit_value d) 10) ds ≡ true → AllDigits 10 ds
digits_from [] e = tt
digits_from (d ∷ ds) e = grind (arith, common_steps, digits_from ds)

number_read : (E : Type 0) (text : Text) (n : ℕ) → ParsesUnsigned {E = E} 16 10 text (Ok n) → Some n ≡ number_of text
number_read E text n h = grind (arith, common_steps, are_digits)

no_number_read : (E : Type 0) (text : Text) (e : E) → ParsesUnsigned 16 10 text (Err e) → None ≡ number_of text
no_number_read E text e h = grind (arith, common_steps, and_parts, digits_from)

-- what a typed getter gives for the text of an option, or for none
pub got_number : (E : Type 0) (gives : List ℕ → Result ℕ E → Type 0) → ((t : List ℕ) (x : Result ℕ E) → gives t x → ParsesUnsigned 16 10 t x)
    → (text : Option Text) (r : Option ℕ) → (text ≡ None → r ≡ None) → ((t : List ℕ) → text ≡ Some t → ReadsOne gives t r) → r ≡ option_and_then number_of text
got_number E gives parses None r none value = none refl
got_number E gives parses (Some t) (Some n) none value = number_read E t n (parses t (Ok n) (value t refl))
got_number E gives parses (Some t) None none value =
    let failed = value t refl in
    no_number_read E t failed.0 (parses t (Err failed.0) failed.1)
