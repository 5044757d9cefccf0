-- What a run has done with some depth it has done with more depth too, with the same ticks.
use Rattle.std.proofs.Common.{◌≡◌, ℕ, zero, suc, ◌-◌, ◌≤◌, List, [], ◌∷◌, ◌++◌, refl, sym, ap, ◌∙◌, subst, arith, append_assoc}
use Rattle.std.specs.Prelude.{Bool, true, false, if◌then◌else◌, nat_eq, nat_le, IsTrue}
use Rattle.std.proofs.lemmas.List.{append-nil}
use Rattle.std.proofs.lemmas.Bool.{false≢true}
use Rattle.image_model.specs.Image.{ImageOf}
use Rattle.run_model.specs.Values.{Name, Value, nil_value, Event}
use Rattle.run_model.specs.Store.{Store, start, returns, ends_by, out_of_ticks, Result, fine, leaves}
use Rattle.run_model.specs.Acts.{Act, then_do, gives, fails, goes_home, and_then, with_memory, tells, pays, stops, acts, ended, out_of_home, at_home}
use Rattle.run_model.specs.Eval.{Task, eval}
use Rattle.run_model.specs.Runs.{comes_to, store_of, outcome_of, seen, run_to, has_ended}
use Rattle.run_model.specs.Prefixes.{IsPrefixOf}
use Rattle.run_model.proofs.Congruence.{IsCongruence}
use Rattle.run_model.proofs.Congruence

-- events of a result
abbrev events_of : {A : Type 0} → Result A → List Event
events_of r = (store_of r).events

-- a result is the same, and of one without ticks the events are a prefix
abbrev IsSameOrMore : {A : Type 0} → Result A → Result A → Type 0
IsSameOrMore (fine a s) r = r ≡ fine a s
IsSameOrMore (leaves (returns h v) s) r = r ≡ leaves (returns h v) s
IsSameOrMore (leaves (ends_by e) s) r = r ≡ leaves (ends_by e) s
IsSameOrMore (leaves out_of_ticks s) r = IsPrefixOf s.events (events_of r)

-- the second act does what the first does, and only adds events
record IsExtension (A : Type 0) (m m' : Act A) : Type 0 where
  same : (s : Store) → IsSameOrMore (m s) (m' s)
  grows : (s : Store) → IsPrefixOf s.events (events_of (m' s))

-- a list begins with itself, and with what is equal to it
same-prefix : (es : List Event) → IsPrefixOf es es
same-prefix es = ([], append-nil es)

pub equal-prefix : (es fs : List Event) → es ≡ fs → IsPrefixOf es fs
equal-prefix es fs e = subst (IsPrefixOf es) e (same-prefix es)

-- a prefix of a prefix
pub prefix-trans : (xs ys zs : List Event) → IsPrefixOf xs ys → IsPrefixOf ys zs → IsPrefixOf xs zs
prefix-trans xs ys zs p q = (p.0 ++ q.0, sym (append_assoc xs p.0 q.0) ∙ ap (λ l. l ++ q.0) p.1 ∙ q.1)

-- a result is the same as itself
same-itself : {A : Type 0} (r : Result A) → IsSameOrMore r r
same-itself (fine a s) = refl
same-itself (leaves (returns h v) s) = refl
same-itself (leaves (ends_by e) s) = refl
same-itself (leaves out_of_ticks s) = same-prefix s.events

-- going on only adds events
then-grows : {A B : Type 0} (es : List Event) (x : Result A) (go : A → Act B) → IsPrefixOf es (events_of x) → ((a : A) (s : Store) → IsPrefixOf s.events (events_of (go a s))) → IsPrefixOf es (events_of (then_do x go))
then-grows es (fine a s) go p f = prefix-trans es s.events _ p (f a s)
then-grows es (leaves x s) go p f = p

-- going on does what it does
then-same : {A B : Type 0} (x x' : Result A) (go go' : A → Act B) → IsSameOrMore x x' → ((a : A) (s : Store) → IsSameOrMore (go a s) (go' a s)) → ((a : A) (s : Store) → IsPrefixOf s.events (events_of (go' a s))) → IsSameOrMore (then_do x go) (then_do x' go')
then-same (fine a s) x' go go' p f g = subst (λ y. IsSameOrMore (go a s) (then_do y go')) (sym p) (f a s)
then-same (leaves (returns h v) s) x' go go' p f g = ap (λ y. then_do y go') p
then-same (leaves (ends_by e) s) x' go go' p f g = ap (λ y. then_do y go') p
then-same (leaves out_of_ticks s) x' go go' p f g = then-grows s.events x' go' p g

-- what pays tells nothing
paid-grows : {A : Type 0} (b : Bool) (n : ℕ) (a : A) (s : Store) → IsPrefixOf s.events (events_of (if b then fine a (record s { ticks = s.ticks - n }) else leaves out_of_ticks (record s { ticks = 0 })))
paid-grows true n a s = same-prefix s.events
paid-grows false n a s = same-prefix s.events

-- a home that ends only adds events
home-grows : (es : List Event) (h : ℕ) (x : Result Value) → IsPrefixOf es (events_of x) → IsPrefixOf es (events_of (out_of_home h x))
home-grows es h (fine v s) p = p
home-grows es h (leaves (returns k v) s) p = by (nat_eq k h)
  where
    by : (b : Bool) → IsPrefixOf es (events_of (if b then fine v (ended h s) else leaves (returns k v) (ended h s)))
    by true = p
    by false = p
home-grows es h (leaves (ends_by e) s) p = p
home-grows es h (leaves out_of_ticks s) p = p

-- what comes out of a home
home-same : (h : ℕ) (x x' : Result Value) → IsSameOrMore x x' → IsSameOrMore (out_of_home h x) (out_of_home h x')
home-same h (fine v s) x' p = ap (out_of_home h) p
home-same h (leaves (returns j v) s) x' p = subst (λ y. IsSameOrMore (out_of_home h (leaves (returns j v) s)) (out_of_home h y)) (sym p) (same-itself (out_of_home h (leaves (returns j v) s)))
home-same h (leaves (ends_by e) s) x' p = ap (out_of_home h) p
home-same h (leaves out_of_ticks s) x' p = home-grows s.events h x' p

-- each operation does what it does
extends : IsCongruence acts acts IsExtension
unfolding gives fails goes_home and_then with_memory tells pays at_home
extends = record {
  given = λ A a. record { same = λ s. refl; grows = λ s. same-prefix s.events };
  failed = λ A e. record { same = λ s. refl; grows = λ s. same-prefix s.events };
  returned = λ A h v. record { same = λ s. refl; grows = λ s. same-prefix s.events };
  chained = λ A B m m' go go' p q. record {
    same = λ s. then-same (m s) (m' s) go go' (p.same s) (λ a s1. (q a).same s1) (λ a s1. (q a).grows s1);
    grows = λ s. then-grows s.events (m' s) go' (p.grows s) (λ a s1. (q a).grows s1);
  };
  remembered = λ A f. record { same = λ s. refl; grows = λ s. same-prefix s.events };
  told = λ A e a. record { same = λ s. refl; grows = λ s. (e ∷ [], refl) };
  paid = λ A n a. record { same = λ s. same-itself (if nat_le n s.ticks then fine a (record s { ticks = s.ticks - n }) else leaves out_of_ticks (record s { ticks = 0 })); grows = λ s. paid-grows (nat_le n s.ticks) n a s };
  homed = λ h m m' p. record { same = λ s. home-same h (m s) (m' s) (p.same s); grows = λ s. home-grows s.events h (m' s) (p.grows s) };
}

-- evaluation with the same depth
eval-grows : (i : ImageOf Name) (d : ℕ) (t : Task) (s : Store) → IsPrefixOf s.events (events_of (eval acts i d t s))
unfolding stops
eval-grows i d t s = (Congruence.eval-Rel acts acts IsExtension extends (record { same = λ s. same-prefix s.events; grows = λ s. same-prefix s.events }) i d t).grows s

-- evaluation with more depth
eval-extends : (i : ImageOf Name) (d e : ℕ) → d ≤ e → (t : Task) → IsExtension Value (eval acts i d t) (eval acts i e t)
unfolding stops
eval-extends i zero e le t = record { same = eval-grows i e t; grows = eval-grows i e t }
eval-extends i (suc d) zero le t = absurd (omega arith)
eval-extends i (suc d) (suc e) le t =
    Congruence.step-Rel acts acts IsExtension extends (eval acts i d) (eval acts i e) (λ f n. eval-extends i d e (omega arith) _) i (λ f sense a b. eval-extends i d e (omega arith) _) t

-- do-its with more depth
comes_to-extends : (i : ImageOf Name) (d e n : ℕ) → d ≤ e → IsSameOrMore (comes_to i d n) (comes_to i e n)
comes_to-extends i d e n le =
    (Congruence.does_doits-Rel acts acts IsExtension extends (eval acts i d) (eval acts i e) (λ f t. eval-extends i d e le _) i nil_value i.doits).same (start n)

-- a run that has ended is the same
seen-ended : (n : ℕ) (x x' : Result Value) → IsSameOrMore x x' → IsTrue (has_ended (outcome_of x)) → seen n x' ≡ seen n x
seen-ended n (fine v s) x' p e = ap (seen n) p
seen-ended n (leaves (returns h v) s) x' p e = ap (seen n) p
seen-ended n (leaves (ends_by x) s) x' p e = ap (seen n) p
seen-ended n (leaves out_of_ticks s) x' p e = absurd (false≢true e)

-- the events of a run are a prefix
seen-prefix : (x x' : Result Value) → IsSameOrMore x x' → IsPrefixOf (events_of x) (events_of x')
seen-prefix (fine v s) x' p = equal-prefix _ _ (ap events_of (sym p))
seen-prefix (leaves (returns h v) s) x' p = equal-prefix _ _ (ap events_of (sym p))
seen-prefix (leaves (ends_by e) s) x' p = equal-prefix _ _ (ap events_of (sym p))
seen-prefix (leaves out_of_ticks s) x' p = p

-- a run with some depth that has ended is the same with more depth
pub run_to-ended : (i : ImageOf Name) (d e n : ℕ) → d ≤ e → IsTrue (has_ended ((run_to i d n).outcome)) → run_to i e n ≡ run_to i d n
run_to-ended i d e n le p = seen-ended n (comes_to i d n) (comes_to i e n) (comes_to-extends i d e n le) p

-- the events of a run with some depth are a prefix of those with more depth
pub run_to-prefix : (i : ImageOf Name) (d e n : ℕ) → d ≤ e → IsPrefixOf ((run_to i d n).events) ((run_to i e n).events)
run_to-prefix i d e n le = seen-prefix (comes_to i d n) (comes_to i e n) (comes_to-extends i d e n le)
