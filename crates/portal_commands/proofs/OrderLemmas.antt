-- The order that was found for a subcommand.
use Rattle.std.proofs.Common.{◌≡◌, ◌≢◌, ◌⊎◌, inl, inr, ◌<◌, ◌^◌, ℕ, List, Option, Some, None, option_map}
use Rattle.std.proofs.Common.{get_or, codes, refl, sym, ◌∙◌, ap, subst, arith}
use Rattle.std.specs.Borrow.{Bor}
use Rattle.std.specs.Str.Parse.{IsNumeral, digits_value, without_leading_plus}
use Rattle.std.specs.Prelude.{MatchOption}
use Rattle.clap.specs.Words.{IsAmong, Row, Text, fault_of, first_of, subcommand_name_of, subcommand_of}
use Rattle.clap.specs.Words.{subcommand_rows_of}
use Rattle.clap.specs.declared.parser.matches.ArgMatches.{ArgMatches}
use Rattle.clap.specs.declared.parser.matches.ArgMatches.TheViews.{out-ArgMatches}
use Rattle.clap.specs.declared.error.kind.ErrorKind.{ErrorKind}
use Rattle.clap.specs.declared.error.kind.ErrorKind.TheVariants.{DisplayHelp, DisplayVersion, OutOfMemory}
use Rattle.portal_commands.specs.declared.order.Order.{Order}
use Rattle.portal_commands.specs.declared.order.Order.TheVariants.{Serve, Answer, Print, Takings, Check}
use Rattle.portal_commands.specs.declared.order.NoOrder.{NoOrder}
use Rattle.portal_commands.specs.declared.order.NoOrder.TheVariants.{Help, Version, Invalid, NoMemory}
use Rattle.portal_commands.specs.CommandLine.{command_line}
use Rattle.portal_commands.specs.Orders.{FindsNamed, FindsOrder, GivesFiles, GivesNumber, GivesText}
use Rattle.portal_commands.specs.Orders.{IsAnswerOrder, IsCheckOrder, IsNoHelp, IsNone, IsNoOrder}
use Rattle.portal_commands.specs.Orders.{IsPrintOrder, IsServeOrder, IsTakingsOrder, GivesNoOrder, GivesKind}
use Rattle.portal_commands.specs.Orders.{WritesNumber}

twice : {A B C : Type 0} (f : B → C) (g : A → B) (o : Option A)
    → option_map f (option_map g o) ≡ option_map (λ x. f (g x)) o
twice f g None = refl
twice f g (Some x) = refl

-- the name of a subcommand, beside its rows
name_of_rows : (m : ArgMatches) → option_map (λ p. p.0) (subcommand_rows_of m) ≡ subcommand_name_of m
name_of_rows m = twice _ _ (out-ArgMatches m).subcommand

both : {A B : Type 0} (found : Option (A × B)) (a : A) (b : B) → option_map (λ p. p.0) found ≡ Some a
    → option_map (λ p. p.1) found ≡ Some b → found ≡ Some (a, b)
both None a b first second = absurd (cc)
both (Some p) a b first second =
    let left : p.0 ≡ a = cc (first) in
    let right : p.1 ≡ b = cc (second) in
    λ i. Some (left i, right i)

-- the name and the rows of a subcommand
pub found_so : (m : ArgMatches) (name : Text) (rows : List Row) → Some name ≡ subcommand_name_of m
    → Some rows ≡ option_map (λ p. p.1) (subcommand_rows_of m)
    → subcommand_rows_of m ≡ Some (name, rows)
found_so m name rows named here =
    both (subcommand_rows_of m) name rows (name_of_rows m ∙ sym named) (sym here)

-- an option that was not given has no text
pub no_text : (name : Text) (rows : List Row) → first_of name rows ≡ None → (text : Bor Text)
    → GivesText name rows text → ⊥
no_text name rows none text is = cc (none, is)

-- the text writes the number, if it is there
abbrev pub Writes : Option Text → ℕ → Type 0
Writes text n = (t : Text) × (text ≡ Some t) × WritesNumber t n

-- the text writes a number of 64 bits
abbrev pub IsWritten : Text → Type 0
IsWritten t = IsNumeral 10 (without_leading_plus t) × (digits_value 10 (without_leading_plus t) < 2 ^ 64)

-- the number that is read from a text, if it writes one
pub number_given : (text : Option Text) (result : Option ℕ) → (text ≡ None → result ≡ None)
    → ((n : ℕ) → result ≡ Some n → (t : Text) → text ≡ Some t
    → IsWritten t × (n ≡ digits_value 10 (without_leading_plus t)))
    → (result ≡ None → (t : Text) → text ≡ Some t → ¬ IsWritten t)
    → MatchOption result ((n : ℕ) → ¬ (Writes text n)) (Writes text)
number_given None (Some n) none reads fails = let some : Some n ≡ None = none refl in absurd (cc (some))
number_given None None none reads fails = λ n written. absurd (cc (written.1))
number_given (Some t) (Some n) none reads fails = let read = reads n refl t refl in
    (t, refl, (read.0.0, read.0.1, read.1))
number_given (Some t) None none reads fails =
    λ n written. fails refl written.0 written.1 (written.2.0, written.2.1)

-- no order is found
pub finds_none : (Is : List Row → Order → Type 0) (rows : List Row) (result : Option Order) → result ≡ None
    → IsNone Is rows → FindsOrder Is rows result
finds_none Is rows None same none = none
finds_none Is rows (Some order) same none = absurd (cc (same))

-- ---- no order of a subcommand, since an option is missing

module _ (rows : List Row) where
  abbrev NoFiles : Type 0
  NoFiles = (db : Bor Text) (settings : Bor Text) → GivesFiles rows db settings → ⊥

  abbrev NoNumber : Text → Type 0
  NoNumber name = (n : ℕ) → GivesNumber name rows n → ⊥

  abbrev NoText : Text → Type 0
  NoText name = (text : Bor Text) → GivesText name rows text → ⊥

  pub serve_without : NoFiles ⊎ (NoNumber (codes "port") ⊎ NoNumber (codes "count"))
      → IsNone IsServeOrder rows
  serve_without without (Serve db settings port count) is = elim without [
    | inl files ↦ files db settings is.0
    | inr numbers ↦ elim numbers [ inl none ↦ none port is.1 | inr none ↦ none count is.2 ]
  ]
  serve_without without _ is = is

  pub answer_without : NoNumber (codes "now") ⊎ NoText (codes "seed") → IsNone IsAnswerOrder rows
  answer_without without (Answer db settings now seed) is =
      elim without [ inl none ↦ none now is.2 | inr none ↦ none seed is.3 ]
  answer_without without _ is = is

  pub print_without : NoFiles ⊎ NoText (codes "batch") → IsNone IsPrintOrder rows
  print_without without (Print db settings batch) is =
      elim without [ inl files ↦ files db settings is.0 | inr none ↦ none batch is.1 ]
  print_without without _ is = is

  pub takings_without : NoFiles ⊎ (NoText (codes "from") ⊎ NoText (codes "to")) → IsNone IsTakingsOrder rows
  takings_without without (Takings db settings from to) is = elim without [
    | inl files ↦ files db settings is.0
    | inr texts ↦ elim texts [ inl none ↦ none from is.1 | inr none ↦ none to is.2 ]
  ]
  takings_without without _ is = is

  pub check_without : NoFiles → IsNone IsCheckOrder rows
  check_without without (Check db settings) is = without db settings is
  check_without without _ is = is

-- ---- by the name

abbrev head : Text → ℕ
head text = get_or text 0 0

pub named_serve : (name : Text) (rows : List Row) (result : Option Order) → name ≡ codes "serve"
    → FindsOrder IsServeOrder rows result → FindsNamed (Some (name, rows)) result
named_serve name rows None same none = λ order is. elim is [
  | inl it ↦ none order it.1
  | inr rest0 ↦ elim rest0 [
    | inl it ↦ (let bad : ◌≡◌ {A = ℕ} 115 97 = ap head (sym same ∙ it.0) in absurd (omega arith))
    | inr rest1 ↦ elim rest1 [
      | inl it ↦ (let bad : ◌≡◌ {A = ℕ} 115 112 = ap head (sym same ∙ it.0) in absurd (omega arith))
      | inr rest2 ↦ elim rest2 [
        | inl it ↦ (let bad : ◌≡◌ {A = ℕ} 115 116 = ap head (sym same ∙ it.0) in absurd (omega arith))
        | inr rest3 ↦ (let it = rest3 in
            (let bad : ◌≡◌ {A = ℕ} 115 99 = ap head (sym same ∙ it.0) in absurd (omega arith)))
      ]
    ]
  ]
]
named_serve name rows (Some order) same is = inl (same, is)

pub named_answer : (name : Text) (rows : List Row) (result : Option Order) → name ≡ codes "answer"
    → FindsOrder IsAnswerOrder rows result → FindsNamed (Some (name, rows)) result
named_answer name rows None same none = λ order is. elim is [
  | inl it ↦ (let bad : ◌≡◌ {A = ℕ} 97 115 = ap head (sym same ∙ it.0) in absurd (omega arith))
  | inr rest0 ↦ elim rest0 [
    | inl it ↦ none order it.1
    | inr rest1 ↦ elim rest1 [
      | inl it ↦ (let bad : ◌≡◌ {A = ℕ} 97 112 = ap head (sym same ∙ it.0) in absurd (omega arith))
      | inr rest2 ↦ elim rest2 [
        | inl it ↦ (let bad : ◌≡◌ {A = ℕ} 97 116 = ap head (sym same ∙ it.0) in absurd (omega arith))
        | inr rest3 ↦ (let it = rest3 in
            (let bad : ◌≡◌ {A = ℕ} 97 99 = ap head (sym same ∙ it.0) in absurd (omega arith)))
      ]
    ]
  ]
]
named_answer name rows (Some order) same is = inr (inl (same, is))

pub named_print : (name : Text) (rows : List Row) (result : Option Order) → name ≡ codes "print"
    → FindsOrder IsPrintOrder rows result → FindsNamed (Some (name, rows)) result
named_print name rows None same none = λ order is. elim is [
  | inl it ↦ (let bad : ◌≡◌ {A = ℕ} 112 115 = ap head (sym same ∙ it.0) in absurd (omega arith))
  | inr rest0 ↦ elim rest0 [
    | inl it ↦ (let bad : ◌≡◌ {A = ℕ} 112 97 = ap head (sym same ∙ it.0) in absurd (omega arith))
    | inr rest1 ↦ elim rest1 [
      | inl it ↦ none order it.1
      | inr rest2 ↦ elim rest2 [
        | inl it ↦ (let bad : ◌≡◌ {A = ℕ} 112 116 = ap head (sym same ∙ it.0) in absurd (omega arith))
        | inr rest3 ↦ (let it = rest3 in
            (let bad : ◌≡◌ {A = ℕ} 112 99 = ap head (sym same ∙ it.0) in absurd (omega arith)))
      ]
    ]
  ]
]
named_print name rows (Some order) same is = inr (inr (inl (same, is)))

pub named_takings : (name : Text) (rows : List Row) (result : Option Order) → name ≡ codes "takings"
    → FindsOrder IsTakingsOrder rows result → FindsNamed (Some (name, rows)) result
named_takings name rows None same none = λ order is. elim is [
  | inl it ↦ (let bad : ◌≡◌ {A = ℕ} 116 115 = ap head (sym same ∙ it.0) in absurd (omega arith))
  | inr rest0 ↦ elim rest0 [
    | inl it ↦ (let bad : ◌≡◌ {A = ℕ} 116 97 = ap head (sym same ∙ it.0) in absurd (omega arith))
    | inr rest1 ↦ elim rest1 [
      | inl it ↦ (let bad : ◌≡◌ {A = ℕ} 116 112 = ap head (sym same ∙ it.0) in absurd (omega arith))
      | inr rest2 ↦ elim rest2 [
        | inl it ↦ none order it.1
        | inr rest3 ↦ (let it = rest3 in
            (let bad : ◌≡◌ {A = ℕ} 116 99 = ap head (sym same ∙ it.0) in absurd (omega arith)))
      ]
    ]
  ]
]
named_takings name rows (Some order) same is = inr (inr (inr (inl (same, is))))

pub named_check : (name : Text) (rows : List Row) (result : Option Order) → name ≡ codes "check"
    → FindsOrder IsCheckOrder rows result → FindsNamed (Some (name, rows)) result
named_check name rows None same none = λ order is. elim is [
  | inl it ↦ (let bad : ◌≡◌ {A = ℕ} 99 115 = ap head (sym same ∙ it.0) in absurd (omega arith))
  | inr rest0 ↦ elim rest0 [
    | inl it ↦ (let bad : ◌≡◌ {A = ℕ} 99 97 = ap head (sym same ∙ it.0) in absurd (omega arith))
    | inr rest1 ↦ elim rest1 [
      | inl it ↦ (let bad : ◌≡◌ {A = ℕ} 99 112 = ap head (sym same ∙ it.0) in absurd (omega arith))
      | inr rest2 ↦ elim rest2 [
        | inl it ↦ (let bad : ◌≡◌ {A = ℕ} 99 116 = ap head (sym same ∙ it.0) in absurd (omega arith))
        | inr rest3 ↦ (let it = rest3 in none order it.1)
      ]
    ]
  ]
]
named_check name rows (Some order) same is = inr (inr (inr (inr (same, is))))

pub named_otherwise : (name : Text) (rows : List Row) → name ≢ codes "serve" → name ≢ codes "answer"
    → name ≢ codes "print" → name ≢ codes "takings" → name ≢ codes "check"
    → IsNoOrder (Some (name, rows))
named_otherwise name rows a b c d e = λ order is.
    elim is [
      | inl it ↦ a it.0
      | inr r1 ↦ elim r1 [
        | inl it ↦ b it.0
        | inr r2 ↦ elim r2 [ inl it ↦ c it.0 | inr r3 ↦ elim r3 [ inl it ↦ d it.0 | inr it ↦ e it.0 ] ]
      ]
    ]

pub ruleset named = (named_serve, named_answer, named_print, named_takings, named_check, named_otherwise)

-- what is printed for an error whose kind is among those that the arguments give
pub tells : (words : List Text) (kind : ErrorKind) (told : NoOrder) → GivesKind kind told
    → (kind ≡ OutOfMemory) ⊎ IsAmong kind (fault_of command_line words) → GivesNoOrder words told
tells words kind NoMemory is among = tt
tells words kind (Help text) is (inl full) = let same : DisplayHelp ≡ OutOfMemory = sym is ∙ full in
    absurd (cc (same))
tells words kind (Help text) is (inr here) =
    subst (λ (k : ErrorKind). IsAmong k (fault_of command_line words)) is here
tells words kind Version is (inl full) = let same : DisplayVersion ≡ OutOfMemory = sym is ∙ full in
    absurd (cc (same))
tells words kind Version is (inr here) =
    subst (λ (k : ErrorKind). IsAmong k (fault_of command_line words)) is here
tells words kind (Invalid text) is (inl full) = absurd (is.2 full)
tells words kind (Invalid text) is (inr here) = inl (kind, here, is.0, is.1)

-- what is printed if the arguments give no order
pub told_none : (words : List Text) (told : NoOrder) → IsNoHelp told
    → IsNoOrder (subcommand_of command_line words) → GivesNoOrder words told
told_none words NoMemory is none = tt
told_none words (Help text) is none = absurd is
told_none words Version is none = absurd is
told_none words (Invalid text) is none = inr none
