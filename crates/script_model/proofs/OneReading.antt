-- A script has one reading.
use Rattle.std.proofs.Common.{◌≡◌, ℕ, ◌+◌, ◌<◌, Bool, true, false, not, List, [], ◌∷◌, ◌++◌, length, map, Option, Some, None, Result, Ok, refl, sym, ap, ◌∙◌, arith}
use Rattle.std.specs.Prelude.{cond, nat_lt, if◌then◌else◌}
use Rattle.std.proofs.lemmas.List.{map-append}
use Rattle.std.proofs.lemmas.List.Elements.{filter-append}
use Rattle.std.proofs.lemmas.Bool.{lt-ltb}
use Rattle.ruled_model.specs.RuledScripts.{Line}
use Rattle.script_model.specs.Lines.{lines_of, is_skipped, spoken}
use Rattle.script_model.specs.Commands.{Cause, TooMany}
use Rattle.script_model.specs.Scripts.{LineSays, Say, Says, cause_of, IsRefused}
use Rattle.script_model.proofs.RuledAnswers.{Answer, each-said, wrong-as}

abbrev Text : Type 0
Text = List ℕ

-- the same results are those of the same requests
same_requests : (cs ds : List Line) → map {B = Result Line Cause} Ok cs ≡ map Ok ds → cs ≡ ds
same_requests [] [] e = refl
same_requests [] (d ∷ ds) e = absurd (cc)
same_requests (c ∷ cs) [] e = absurd (cc)
same_requests (c ∷ cs) (d ∷ ds) e =
    let first : c ≡ d = cc in
    let rest : map {B = Result Line Cause} Ok cs ≡ map Ok ds = cc in
    λ i. first i ∷ same_requests cs ds rest i

-- a result among those of requests is that of one, and there are more of them than stand before it
among : (bs cs : List Line) (r : Result Line Cause) (rs : List (Result Line Cause)) → map Ok bs ++ r ∷ rs ≡ map Ok cs → (c : Line) × (r ≡ Ok c) × (length bs < length cs)
among [] [] r rs e = absurd (cc)
among [] (c ∷ cs) r rs e = let first : r ≡ Ok c = cc in (c, first, omega arith)
among (b ∷ bs) [] r rs e = absurd (cc)
among (b ∷ bs) (c ∷ cs) r rs e =
    let rest : map Ok bs ++ r ∷ rs ≡ map Ok cs = cc in
    let found = among bs cs r rs rest in
    (found.0, found.1, omega (arith, found.2))

-- two places in a list, of which one is nearer or both are one
data Parted {X : Type 0} (xs : List X) (x : X) (bs cs : List X) (y : X) (ds : List X) : Type 0 where
  same : xs ≡ cs → x ≡ y → Parted xs x bs cs y ds
  nearer : (es : List X) → cs ≡ xs ++ x ∷ es → Parted xs x bs cs y ds
  farther : (es : List X) → xs ≡ cs ++ y ∷ es → Parted xs x bs cs y ds

parted : {X : Type 0} (xs : List X) (x : X) (bs cs : List X) (y : X) (ds : List X) → xs ++ x ∷ bs ≡ cs ++ y ∷ ds → Parted xs x bs cs y ds
parted [] x bs [] y ds e = let first : x ≡ y = cc in same refl first
parted [] x bs (c ∷ cs) y ds e = let first : x ≡ c = cc in nearer cs (ap (λ z. z ∷ cs) (sym first))
parted (a ∷ xs) x bs [] y ds e = let first : a ≡ y = cc in farther xs (ap (λ z. z ∷ xs) first)
parted (a ∷ xs) x bs (c ∷ cs) y ds e =
    let first : a ≡ c = cc in
    let rest : xs ++ x ∷ bs ≡ cs ++ y ∷ ds = cc in
    by first (parted xs x bs cs y ds rest)
  where
    by : a ≡ c → Parted xs x bs cs y ds → Parted (a ∷ xs) x bs (c ∷ cs) y ds
    by f (same p q) = same (λ i. f i ∷ p i) q
    by f (nearer es p) = nearer es (λ i. sym f i ∷ p i)
    by f (farther es p) = farther es (λ i. f i ∷ p i)

module _ (answer : Text → Answer) (says : (line : Text) → LineSays line (answer line)) (one : (line : Text) (r s : Answer) → LineSays line r → LineSays line s → r ≡ s) where
  -- what lines say
  said-each : (ls : List Text) (rs : List Line) → Say ls rs → map answer (spoken ls) ≡ map Ok rs
  said-each ls rs p = each-said answer says one (spoken ls) rs p.each

  -- a script asks for one list of commands
  pub says_once : (text : Text) (cs ds : List Line) → Says text cs → Says text ds → cs ≡ ds
  says_once text cs ds p q = same_requests cs ds (sym (said-each (lines_of text) cs p) ∙ said-each (lines_of text) ds q)

  -- what the lines say of which one says something
  said_parts : (before after : List Text) (line : Text) → is_skipped line ≡ false → map answer (spoken (before ++ line ∷ after)) ≡ map answer (spoken before) ++ answer line ∷ map answer (spoken after)
  said_parts before after line h =
      ap (map answer) (filter-append (λ (l : Text). not (is_skipped l)) before (line ∷ after))
      ∙ map-append answer (spoken before) (spoken (line ∷ after))
      ∙ ap (λ (b : Bool). map answer (spoken before) ++ map answer (cond (not b) (line ∷ spoken after) (spoken after))) h

  -- a line among lines that ask for something is not wrong
  not_wrong : (lines before after : List Text) (line : Text) (bs cs : List Line) (cause : Cause) → lines ≡ before ++ line ∷ after → is_skipped line ≡ false → Say before bs → Say lines cs → cause_of (length bs) (answer line) ≡ Some cause → ⊥
  not_wrong lines before after line bs cs cause parts h p q wrong =
      let all : map Ok bs ++ answer line ∷ map answer (spoken after) ≡ map Ok cs =
      ap (λ (rs : List (Result Line Cause)). rs ++ answer line ∷ map answer (spoken after)) (sym (said-each before bs p)) ∙ sym (said_parts before after line h) ∙ ap (λ (ls : List Text). map answer (spoken ls)) (sym parts) ∙ said-each lines cs q in
      let found = among bs cs (answer line) (map answer (spoken after)) all in
      let room : nat_lt (length bs) 10000 ≡ true = lt-ltb (length bs) 10000 (omega (arith, found.2, q.few)) in
      no_cause (sym wrong ∙ ap (cause_of (length bs)) found.1 ∙ ap (λ (b : Bool). let r : Option Cause = if b then None else Some TooMany in r) room)
    where
      no_cause : Some cause ≡ None → ⊥
      no_cause e = absurd (cc)

  -- a script that asks for something is not refused
  pub not_refused : (text : Text) (cs : List Line) (n : ℕ) (cause : Cause) → Says text cs → IsRefused text n cause → ⊥
  not_refused text cs n cause p r = not_wrong (lines_of text) r.before r.after r.line r.requests cs cause r.parts r.says_something r.said_before p (wrong-as answer says one r.line (length r.requests) cause r.wrong)

  -- a script is refused at one line with one cause
  pub refused_once : (text : Text) (n m : ℕ) (cause other : Cause) → IsRefused text n cause → IsRefused text m other → (n ≡ m) × (cause ≡ other)
  refused_once text n m cause other p q = by (parted p.before p.line p.after q.before q.line q.after (sym p.parts ∙ q.parts))
    where
      by : Parted p.before p.line p.after q.before q.line q.after → (n ≡ m) × (cause ≡ other)
      by (same e f) =
          let requests : p.requests ≡ q.requests = same_requests p.requests q.requests (sym (said-each p.before p.requests p.said_before) ∙ ap (λ (ls : List Text). map answer (spoken ls)) e ∙ said-each q.before q.requests q.said_before) in
          let causes : Some cause ≡ Some other = sym (wrong-as answer says one p.line (length p.requests) cause p.wrong) ∙ (λ i. cause_of (length (requests i)) (answer (f i))) ∙ wrong-as answer says one q.line (length q.requests) other q.wrong in
          (p.numbered ∙ ap (λ (ls : List Text). length ls + 1) e ∙ sym q.numbered, cc causes)
      by (nearer es e) = absurd (not_wrong q.before p.before es p.line p.requests q.requests cause e p.says_something p.said_before q.said_before (wrong-as answer says one p.line (length p.requests) cause p.wrong))
      by (farther es e) = absurd (not_wrong p.before q.before es q.line q.requests p.requests other e q.says_something q.said_before p.said_before (wrong-as answer says one q.line (length q.requests) other q.wrong))
