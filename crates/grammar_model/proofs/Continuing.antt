-- Some text begins with some tokens exactly where the machine reads them.
use Rattle.std.proofs.Common.{◌≡◌, true, false, List, [], ◌∷◌, ◌++◌, Some, None, refl, ap, sym, subst, ◌∙◌, append_assoc}
use Rattle.std.specs.Prelude.{Option, is_some}
use Rattle.std.specs.Option.{option_map_or}
use Rattle.grammar_model.specs.Terminal.{Terminal, Caret}
use Rattle.grammar_model.specs.Input.{Lexeme, lex, kinds}
use Rattle.grammar_model.specs.Whole.{Form}
use Rattle.grammar_model.specs.Stop.{Continues}
use Rattle.grammar_model.specs.Machine.{Stack, start, step, run, feeds, ended, may_start, Wrong}
use Rattle.grammar_model.proofs.WholeTexts.{reads_text, gets_text}
use Rattle.grammar_model.proofs.Stacks.{IsGood, completes, GoodIfSome}
use Rattle.grammar_model.proofs.Steps.{good_step}

-- what the machine reads to its end as tokens it reads as their kinds
record Accepts (ss : Stack) (ks : List Terminal) : Type 0 where
  to : Stack
  read : feeds ss ks ≡ Some to

-- one token more
accept_step : (o : Option Stack) (ts : List Lexeme) (x : Wrong) → ((s : Stack) → run s ts ≡ None → Accepts s (kinds ts)) → option_map_or (λ s. run s ts) o (Some x) ≡ None → (to : Stack) × (option_map_or (λ s. feeds s (kinds ts)) o None ≡ Some to)
accept_step None ts x later h = cc
accept_step (Some s) ts x later h = let a = later s h in (a.to, a.read)

-- what is read to its end as tokens is read as their kinds
accepts : (ts : List Lexeme) (ss : Stack) → run ss ts ≡ None → Accepts ss (kinds ts)
accepts [] ss h = record { to = ss; read = refl }
accepts (lex c f e k ∷ ts) ss h = let a = accept_step (step ss k) ts _ (accepts ts) h in record { to = a.0; read = a.1 }

-- tokens of these kinds, without comments, all at one place
bare : List Terminal → List Lexeme
bare [] = []
bare (k ∷ ks) = lex [] 0 0 k ∷ bare ks

-- their kinds are those
kinds-bare : (ks : List Terminal) → kinds (bare ks) ≡ ks
unfolding bare
kinds-bare [] = refl
kinds-bare (k ∷ ks) = ap (λ x. k ∷ x) (kinds-bare ks)

-- one token more
run_step : (o : Option Stack) (ks : List Terminal) (to : Stack) (w : Wrong) → ((s : Stack) → feeds s ks ≡ Some to → run s (bare ks) ≡ None) → option_map_or (λ s. feeds s ks) o None ≡ Some to → option_map_or (λ s. run s (bare ks)) o (Some w) ≡ None
run_step None ks to w later h = cc
run_step (Some s) ks to w later h = later s h

-- what is read as kinds is read as such tokens
runs : (ks : List Terminal) (ss : Stack) → feeds ss ks ≡ Some [] → run ss (bare ks) ≡ None
unfolding bare
runs [] ss h = let same : ss ≡ [] = cc in ap ended same
runs (k ∷ ks) ss h = run_step (step ss k) ks [] _ (λ s. runs ks s) h

-- one token more
both_step : (o : Option Stack) (p q : List Terminal) (to : Stack) → ((s : Stack) → feeds s p ≡ Some to → feeds s (p ++ q) ≡ feeds to q) → option_map_or (λ s. feeds s p) o None ≡ Some to → option_map_or (λ s. feeds s (p ++ q)) o None ≡ feeds to q
both_step None p q to later h = cc
both_step (Some s) p q to later h = later s h

-- tokens are read in two pieces
pub feeds-append : (p q : List Terminal) (ss to : Stack) → feeds ss p ≡ Some to → feeds ss (p ++ q) ≡ feeds to q
feeds-append [] q ss to h = let same : ss ≡ to = cc in ap (λ s. feeds s q) same
feeds-append (k ∷ p) q ss to h = both_step (step ss k) p q to (λ s. feeds-append p q s to) h

-- one token more
front_step : (o : Option Stack) (p q : List Terminal) (to : Stack) → ((s : Stack) → feeds s (p ++ q) ≡ Some to → (m : Stack) × (feeds s p ≡ Some m)) → option_map_or (λ s. feeds s (p ++ q)) o None ≡ Some to → (m : Stack) × (option_map_or (λ s. feeds s p) o None ≡ Some m)
front_step None p q to later h = cc
front_step (Some s) p q to later h = later s h

-- what is read has beginnings that are read
feeds_front : (p q : List Terminal) (ss to : Stack) → feeds ss (p ++ q) ≡ Some to → (m : Stack) × (feeds ss p ≡ Some m)
feeds_front [] q ss to h = (ss, refl)
feeds_front (k ∷ p) q ss to h = front_step (step ss k) p q to (λ s. feeds_front p q s to) h

-- behind p the stack is ss
abbrev pub IsBehind : Form → List Terminal → Stack → Type 0
IsBehind form p ss = feeds (start form) p ≡ Some ss

-- what can be read to the end of a text continues
pub continues_with : (form : Form) (p : List Terminal) (ss : Stack) (rest : List Terminal) → IsBehind form p ss → feeds ss rest ≡ Some [] → Continues form p
continues_with form p ss rest h r =
    let all : feeds (start form) (p ++ rest) ≡ Some [] = feeds-append p rest (start form) ss h ∙ r in
    record { tokens = bare (p ++ rest); behind = rest; same = kinds-bare (p ++ rest); text = gets_text form (bare (p ++ rest)) (runs (p ++ rest) (start form) all) }

-- what the machine reads continues
pub goes_on : (form : Form) (p : List Terminal) (ss : Stack) → IsBehind form p ss → IsGood ss → Continues form p
goes_on form p ss h good = let z = completes ss good in continues_with form p ss z.tokens h z.read

-- what continues the machine reads
pub is_read : (form : Form) (p : List Terminal) → Continues form p → (ss : Stack) × IsBehind form p ss
is_read form p c =
    let a = accepts c.tokens (start form) (reads_text form c.tokens c.text) in
    feeds_front p c.behind (start form) a.to (subst (λ ks. feeds (start form) ks ≡ Some a.to) c.same a.read)

-- some text goes on behind p with more, and none
pub goes_further : (form : Form) (p more : List Terminal) (ss to : Stack) → IsBehind form p ss → feeds ss more ≡ Some to → IsGood to → Continues form (p ++ more)
goes_further form p more ss to h m good = goes_on form (p ++ more) to (feeds-append p more (start form) ss h ∙ m) good

-- no text goes on behind p with more
pub stops_further : (form : Form) (p more : List Terminal) (ss : Stack) → IsBehind form p ss → feeds ss more ≡ None → ¬ Continues form (p ++ more)
stops_further form p more ss h m c =
    let r = is_read form (p ++ more) c in
    let e : feeds ss more ≡ Some r.0 = sym (feeds-append p more (start form) ss h) ∙ r.1 in cc

-- some text goes on with the first token of what completes a stack
pub goes_first : (form : Form) (p : List Terminal) (ss : Stack) (k : Terminal) (ks : List Terminal) → IsBehind form p ss → feeds ss (k ∷ ks) ≡ Some [] → Continues form (p ++ k ∷ [])
goes_first form p ss k ks h r =
    let all : feeds (start form) (p ++ (k ∷ ks)) ≡ Some [] = feeds-append p (k ∷ ks) (start form) ss h ∙ r in
    let split : p ++ (k ∷ ks) ≡ (p ++ k ∷ []) ++ ks = sym (append_assoc p (k ∷ []) ks) in
    let whole : feeds (start form) ((p ++ k ∷ []) ++ ks) ≡ Some [] = subst (λ x. feeds (start form) x ≡ Some []) split all in
    let m = feeds_front (p ++ k ∷ []) ks (start form) [] whole in
    continues_with form (p ++ k ∷ []) m.0 ks m.1 (sym (feeds-append (p ++ k ∷ []) ks (start form) m.0 m.1) ∙ whole)

-- one token
pub feeds_one : (ss : Stack) (k : Terminal) (o : Option Stack) → step ss k ≡ o → feeds ss (k ∷ []) ≡ o
feeds_one ss k None e = ap (λ o. option_map_or (λ s. Some s) o None) e
feeds_one ss k (Some s) e = ap (λ o. option_map_or (λ s. Some s) o None) e

-- whether a token can stand, by the step on it
can_stand : (form : Form) (p : List Terminal) (ss : Stack) (k : Terminal) (o : Option Stack) → IsBehind form p ss → step ss k ≡ o → GoodIfSome o → is_some o ≡ true → Continues form (p ++ k ∷ [])
can_stand form p ss k None h e g s = cc
can_stand form p ss k (Some to) h e g s = goes_further form p (k ∷ []) ss to h (feeds_one ss k (Some to) e) g

-- a token that no step reads can not stand
can_not_stand : (form : Form) (p : List Terminal) (ss : Stack) (k : Terminal) (o : Option Stack) → IsBehind form p ss → step ss k ≡ o → is_some o ≡ false → ¬ Continues form (p ++ k ∷ [])
can_not_stand form p ss k None h e s = stops_further form p (k ∷ []) ss h (feeds_one ss k None e)
can_not_stand form p ss k (Some to) h e s = cc

-- a statement could begin exactly where the machine says so
pub starts_statement : (form : Form) (p : List Terminal) (ss : Stack) → IsBehind form p ss → IsGood ss → may_start ss ≡ true → Continues form (p ++ Caret ∷ [])
starts_statement form p ss h good s = can_stand form p ss Caret (step ss Caret) h refl (good_step ss Caret good) s

-- no statement could begin where the machine says so
pub starts_no_statement : (form : Form) (p : List Terminal) (ss : Stack) → IsBehind form p ss → may_start ss ≡ false → ¬ Continues form (p ++ Caret ∷ [])
starts_no_statement form p ss h s = can_not_stand form p ss Caret (step ss Caret) h refl s
