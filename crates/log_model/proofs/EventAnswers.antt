-- Each line of a log says one thing.
use Rattle.std.proofs.Common.{◌≡◌, ℕ, ◌⊎◌, inl, inr, Bool, true, false, if◌then◌else◌, List, [], ◌∷◌, map, Option, Some, None, Result, Ok, Err, refl, sym, ap, subst, ◌∙◌, true≢false, codes}
use Rattle.rb_base.specs.Names.{text_eq}
use Rattle.command_words.specs.Spelling.{number_of}
use Rattle.ruled_model.specs.RuledScripts.{Line}
use Rattle.script_model.specs.Makers.{Text}
use Rattle.script_model.specs.Commands.{Cause, UnknownCommand, BadArgument}
use Rattle.script_model.specs.Additions.{first_word, behind_word}
use Rattle.script_model.specs.Scripts.{Says, IsRefused}
use Rattle.log_model.specs.Events.{Act, Event, lone_act, last_session, is_blank_text, proposing, ActSays, Alone, Proposes, ProposesWrong, NoAct, done_by, EventSays, NoSession, Wordless, Does, EachSays, cause_of, IsWrong}

-- what a line says
abbrev pub Answer : Type 0
Answer = Result Event Cause

abbrev ActAnswer : Type 0
ActAnswer = Result Act Cause

-- a script has one reading
abbrev pub OneScript : Type 0
OneScript = (text : Text) (requests others : List Line) → Says text requests → Says text others → requests ≡ others

abbrev pub NotBoth : Type 0
NotBoth = (text : Text) (requests : List Line) (number : ℕ) (cause : Cause) → Says text requests → ¬ IsRefused text number cause

abbrev pub OneRefusal : Type 0
OneRefusal = (text : Text) (number other : ℕ) (cause another : Cause) → IsRefused text number cause → IsRefused text other another → (number ≡ other) × (cause ≡ another)

abbrev pub SomeScript : Type 0
SomeScript = (text : Text) → ((requests : List Line) × Says text requests) ⊎ ((number : ℕ) × (cause : Cause) × IsRefused text number cause)

-- one value, which is there or not
same-value : {X : Type 0} {o : Option X} {a b : X} → o ≡ Some a → o ≡ Some b → a ≡ b
same-value p q = let both = sym p ∙ q in cc

differs-value : {X : Type 0} {o : Option X} {a : X} → o ≡ Some a → o ≡ None → ⊥
differs-value p q = let both = sym p ∙ q in absurd (cc)

module _ (one_script : OneScript) (not_both : NotBoth) (one_refusal : OneRefusal) where
  -- one answer to what a session does
  act-one : (w behind : Text) (r s : ActAnswer) → ActSays w behind r → ActSays w behind s → r ≡ s
  act-one w behind r s (Alone a differs is says) (Alone b other be said) =
      says ∙ ap (λ (x : Act). let o : ActAnswer = if is_blank_text behind then Ok x else Err BadArgument in o) (same-value is be) ∙ sym said
  act-one w behind r s (Alone a differs is says) (Proposes rs is_word is_said said) = absurd (true≢false (sym is_word ∙ differs))
  act-one w behind r s (Alone a differs is says) (ProposesWrong n c is_word wrong said) = absurd (true≢false (sym is_word ∙ differs))
  act-one w behind r s (Alone a differs is says) (NoAct other none said) = absurd (differs-value is none)
  act-one w behind r s (Proposes rs is_word is says) (Alone b differs be said) = absurd (true≢false (sym is_word ∙ differs))
  act-one w behind r s (Proposes rs is_word is says) (Proposes qs also be said) = says ∙ ap proposing (one_script behind rs qs is be) ∙ sym said
  act-one w behind r s (Proposes rs is_word is says) (ProposesWrong n c also wrong said) = absurd (not_both behind rs n c is wrong)
  act-one w behind r s (Proposes rs is_word is says) (NoAct differs none said) = absurd (true≢false (sym is_word ∙ differs))
  act-one w behind r s (ProposesWrong n c is_word wrong says) (Alone b differs be said) = absurd (true≢false (sym is_word ∙ differs))
  act-one w behind r s (ProposesWrong n c is_word wrong says) (Proposes qs also be said) = absurd (not_both behind qs n c be wrong)
  act-one w behind r s (ProposesWrong n c is_word wrong says) (ProposesWrong m d also bad said) =
      says ∙ ap (λ (x : Cause). let o : ActAnswer = Err x in o) (one_refusal behind n m c d wrong bad).1 ∙ sym said
  act-one w behind r s (ProposesWrong n c is_word wrong says) (NoAct differs none said) = absurd (true≢false (sym is_word ∙ differs))
  act-one w behind r s (NoAct differs none says) (Alone b other be said) = absurd (differs-value be none)
  act-one w behind r s (NoAct differs none says) (Proposes qs is_word be said) = absurd (true≢false (sym is_word ∙ differs))
  act-one w behind r s (NoAct differs none says) (ProposesWrong n c is_word wrong said) = absurd (true≢false (sym is_word ∙ differs))
  act-one w behind r s (NoAct differs none says) (NoAct other nothing said) = says ∙ sym said

  -- and to a line
  pub says-one : (line : Text) (r s : Answer) → EventSays line r → EventSays line s → r ≡ s
  says-one line r s (NoSession none says) (NoSession nothing said) = says ∙ sym said
  says-one line r s (NoSession none says) (Wordless m be blank said) = absurd (differs-value be none)
  says-one line r s (NoSession none says) (Does m b be text act said) = absurd (differs-value be none)
  says-one line r s (Wordless n is blank says) (NoSession none said) = absurd (differs-value is none)
  says-one line r s (Wordless n is blank says) (Wordless m be empty said) = says ∙ sym said
  says-one line r s (Wordless n is blank says) (Does m b be text act said) = absurd (true≢false (sym blank ∙ text))
  says-one line r s (Does n a is text act says) (NoSession none said) = absurd (differs-value is none)
  says-one line r s (Does n a is text act says) (Wordless m be blank said) = absurd (true≢false (sym blank ∙ text))
  says-one line r s (Does n a is text act says) (Does m b be also acts said) =
      let acts_same : a ≡ b = act-one (first_word (behind_word line)) (behind_word (behind_word line)) a b act acts in
      let sessions : n ≡ m = same-value is be in
      says ∙ (λ i. done_by (sessions i) (acts_same i)) ∙ sym said

module _ (some_script : SomeScript) where
  -- some answer to what a session does
  act-some : (w behind : Text) → (r : ActAnswer) × ActSays w behind r
  act-some w behind = by (text_eq w (codes "propose")) (lone_act w) refl refl
    where
      read : text_eq w (codes "propose") ≡ true → ((requests : List Line) × Says behind requests) ⊎ ((number : ℕ) × (cause : Cause) × IsRefused behind number cause) → (r : ActAnswer) × ActSays w behind r
      read is_word (inl found) = (proposing found.0, Proposes found.0 is_word found.1 refl)
      read is_word (inr wrong) = (Err wrong.1, ProposesWrong wrong.0 wrong.1 is_word wrong.2 refl)

      by : (b : Bool) (o : Option Act) → text_eq w (codes "propose") ≡ b → lone_act w ≡ o → (r : ActAnswer) × ActSays w behind r
      by true o is_word is = read is_word (some_script behind)
      by false None differs none = (Err UnknownCommand, NoAct differs none refl)
      by false (Some a) differs is = ((if is_blank_text behind then Ok a else Err BadArgument), Alone a differs is refl)

  -- and to a line
  pub says-some : (line : Text) → (r : Answer) × EventSays line r
  says-some line = by (number_of last_session (first_word line)) (is_blank_text (behind_word line)) refl refl
    where
      by : (o : Option ℕ) (b : Bool) → number_of last_session (first_word line) ≡ o → is_blank_text (behind_word line) ≡ b → (r : Answer) × EventSays line r
      by None b none e = (Err BadArgument, NoSession none refl)
      by (Some n) true is blank = (Err BadArgument, Wordless n is blank refl)
      by (Some n) false is text =
          let act = act-some (first_word (behind_word line)) (behind_word (behind_word line)) in
          (done_by n act.0, Does n act.0 is text act.1 refl)

-- if each line says one thing, so do lines
module _ (answer : Text → Answer) (says : (line : Text) → EventSays line (answer line)) (one : (line : Text) (r s : Answer) → EventSays line r → EventSays line s → r ≡ s) where
  pub each-said : (ls : List Text) (es : List Event) → EachSays ls es → map answer ls ≡ map {B = Answer} Ok es
  each-said [] [] each = refl
  each-said [] (e ∷ es) each = absurd each
  each-said (l ∷ ls) [] each = absurd each
  each-said (l ∷ ls) (e ∷ es) each = λ i. one l (answer l) (Ok e) (says l) each.0 i ∷ each-said ls es each.1 i

  pub each-says : (ls : List Text) (es : List Event) → map answer ls ≡ map {B = Answer} Ok es → EachSays ls es
  each-says [] [] e = tt
  each-says [] (r ∷ rs) e = absurd (cc)
  each-says (l ∷ ls) [] e = absurd (cc)
  each-says (l ∷ ls) (r ∷ rs) e =
      let first : answer l ≡ Ok r = cc in
      let rest : map answer ls ≡ map {B = Answer} Ok rs = cc in
      (subst (EventSays l) first (says l), each-says ls rs rest)

  pub wrong-as : (line : Text) (count : ℕ) (cause : Cause) → IsWrong line count cause → cause_of count (answer line) ≡ Some cause
  wrong-as line count cause w = ap (cause_of count) (one line (answer line) w.answer (says line) w.says) ∙ w.wrong
