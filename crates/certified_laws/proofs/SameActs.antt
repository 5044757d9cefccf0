-- Equations of acts, but for ticks.
use Rattle.std.proofs.Common.{◌≡◌, ℕ, List, ◌++◌, refl, sym, ap, ◌∙◌, subst, append_assoc}
use Rattle.std.proofs.lemmas.List.{append-nil}
use Rattle.run_model.specs.Values.{Value, nil_value, true_value, false_value, int_value, char_value, string_value, symbol_value, class_value, object_value, array_value, closure_value, transcript_value, RunError}
use Rattle.run_model.specs.Eval.{chooses}
use Rattle.trace_model.specs.Traces.{Step, End, gave, returned, failed_by, stopped, Trace, traces}
use Rattle.resolved_model.specs.ResolvedActs.{ResolvedClosure}
use Rattle.resolved_traces.specs.ResolvedTraces.{TracedAct, traced, goes_on_traced, then_traced, resolved_traces}
use Rattle.resolved_traces.specs.WholeTraces.{told_in}
use Rattle.certified_laws.proofs.WithinTraces.{told-append, IsSame}

-- each is the same as itself
pub same-refl : {A : Type 0} (act : TracedAct A) → IsSame act act
same-refl act = record { so = λ cs m. (refl, refl, refl) }

pub same-trans : {A : Type 0} (x y z : TracedAct A) → IsSame x y → IsSame y z → IsSame x z
same-trans x y z p q = record { so = λ cs m. ((q.so cs m).0 ∙ (p.so cs m).0, (q.so cs m).1 ∙ (p.so cs m).1, (q.so cs m).2 ∙ (p.so cs m).2) }

-- acts that are equal
pub same-equal : {A : Type 0} (x y : TracedAct A) → x ≡ y → IsSame x y
same-equal x y e = subst (λ a. IsSame x a) e (same-refl x)

-- without the ticks that are wanted first
pub paid-gone : {A B : Type 0} (n : ℕ) (a : A) (go : A → TracedAct B) → IsSame (then_traced (traced (traces.pays n a)) go) (go a)
unfolding then_traced traced
paid-gone n a go = record { so = λ cs m. (refl, refl, refl) }

-- without what just gives a thing
pub given-gone : {A B : Type 0} (a : A) (go : A → TracedAct B) → IsSame (then_traced (traced (traces.gives a)) go) (go a)
unfolding then_traced traced
given-gone a go = record { so = λ cs m. (refl, refl, refl) }

-- without giving at the end what was given
giving-at : {A : Type 0} (ss : List Step) (e : End A) (cs : List ResolvedClosure) →
    (told_in ss ≡ told_in (goes_on_traced ss e cs (λ a. traced (traces.gives a))).0.steps) × (e ≡ (goes_on_traced ss e cs (λ a. traced (traces.gives a))).0.end) × (cs ≡ (goes_on_traced ss e cs (λ a. traced (traces.gives a))).1)
unfolding traced
giving-at ss (gave a m) cs = (sym (ap told_in (append-nil ss)), refl, refl)
giving-at ss (returned k v m) cs = (refl, refl, refl)
giving-at ss (failed_by x m) cs = (refl, refl, refl)
giving-at ss (stopped m) cs = (refl, refl, refl)

pub giving-gone : {A : Type 0} (act : TracedAct A) → IsSame (then_traced act (λ a. traced (traces.gives a))) act
unfolding then_traced
giving-gone act = record { so = λ cs m. giving-at (act cs m).0.steps (act cs m).0.end (act cs m).1 }

-- going on from acts that are the same
on-same : {A B : Type 0} (ss ys : List Step) (e e' : End A) (cs cs' : List ResolvedClosure) (go go' : A → TracedAct B) → told_in ys ≡ told_in ss → e' ≡ e → cs' ≡ cs → ((a : A) → IsSame (go a) (go' a)) →
    (told_in (goes_on_traced ys e' cs' go').0.steps ≡ told_in (goes_on_traced ss e cs go).0.steps) × ((goes_on_traced ys e' cs' go').0.end ≡ (goes_on_traced ss e cs go).0.end) × ((goes_on_traced ys e' cs' go').1 ≡ (goes_on_traced ss e cs go).1)
on-same {A} {B} ss ys (gave a m) e' cs cs' go go' t p q h =
    subst (λ (x : End A). (told_in (goes_on_traced ys x cs' go').0.steps ≡ told_in (goes_on_traced ss (gave a m) cs go).0.steps) × ((goes_on_traced ys x cs' go').0.end ≡ (goes_on_traced ss (gave a m) cs go).0.end) × ((goes_on_traced ys x cs' go').1 ≡ (goes_on_traced ss (gave a m) cs go).1)) (sym p)
    (subst (λ (l : List ResolvedClosure). (told_in (ys ++ (go' a l m).0.steps) ≡ told_in (ss ++ (go a cs m).0.steps)) × ((go' a l m).0.end ≡ (go a cs m).0.end) × ((go' a l m).1 ≡ (go a cs m).1)) (sym q)
    (told-append ys (go' a cs m).0.steps ∙ (λ i. t i ++ ((h a).so cs m).0 i) ∙ sym (told-append ss (go a cs m).0.steps), ((h a).so cs m).1, ((h a).so cs m).2))
on-same {A} ss ys (returned k v m) e' cs cs' go go' t p q h =
    subst (λ (x : End A). (told_in (goes_on_traced ys x cs' go').0.steps ≡ told_in ss) × ((goes_on_traced ys x cs' go').0.end ≡ returned k v m) × ((goes_on_traced ys x cs' go').1 ≡ cs)) (sym p) (t, refl, q)
on-same {A} ss ys (failed_by y m) e' cs cs' go go' t p q h =
    subst (λ (x : End A). (told_in (goes_on_traced ys x cs' go').0.steps ≡ told_in ss) × ((goes_on_traced ys x cs' go').0.end ≡ failed_by y m) × ((goes_on_traced ys x cs' go').1 ≡ cs)) (sym p) (t, refl, q)
on-same {A} ss ys (stopped m) e' cs cs' go go' t p q h =
    subst (λ (x : End A). (told_in (goes_on_traced ys x cs' go').0.steps ≡ told_in ss) × ((goes_on_traced ys x cs' go').0.end ≡ stopped m) × ((goes_on_traced ys x cs' go').1 ≡ cs)) (sym p) (t, refl, q)

pub then-same : {A B : Type 0} (act act' : TracedAct A) (go go' : A → TracedAct B) → IsSame act act' → ((a : A) → IsSame (go a) (go' a)) → IsSame (then_traced act go) (then_traced act' go')
unfolding then_traced
then-same act act' go go' p h = record {
  so = λ cs m.
      on-same (act cs m).0.steps (act' cs m).0.steps (act cs m).0.end (act' cs m).0.end (act cs m).1 (act' cs m).1 go go' (p.so cs m).0 (p.so cs m).1 (p.so cs m).2 h;
}

-- one act after another, and then a third
after-at : {A B C : Type 0} (ss : List Step) (e : End A) (cs : List ResolvedClosure) (go : A → TracedAct B) (next : B → TracedAct C) (x : Trace C × List ResolvedClosure) →
    x ≡ goes_on_traced ss e cs (λ a cs m. goes_on_traced (go a cs m).0.steps (go a cs m).0.end (go a cs m).1 next) →
    (told_in x.0.steps ≡ told_in (goes_on_traced (goes_on_traced ss e cs go).0.steps (goes_on_traced ss e cs go).0.end (goes_on_traced ss e cs go).1 next).0.steps)
    × (x.0.end ≡ (goes_on_traced (goes_on_traced ss e cs go).0.steps (goes_on_traced ss e cs go).0.end (goes_on_traced ss e cs go).1 next).0.end)
    × (x.1 ≡ (goes_on_traced (goes_on_traced ss e cs go).0.steps (goes_on_traced ss e cs go).0.end (goes_on_traced ss e cs go).1 next).1)
after-at {A} {B} {C} ss (gave a m) cs go next x e =
    let inner = on-behind ss (go a cs m).0.steps (go a cs m).0.end (go a cs m).1 next in
    (ap (λ (y : Trace C × List ResolvedClosure). told_in y.0.steps) e ∙ inner.0, ap (λ (y : Trace C × List ResolvedClosure). y.0.end) e ∙ inner.1, ap (λ (y : Trace C × List ResolvedClosure). y.1) e ∙ inner.2) where
      on-behind : {B C : Type 0} (ss ts : List Step) (e : End B) (cs : List ResolvedClosure) (next : B → TracedAct C) →
          (told_in (ss ++ (goes_on_traced ts e cs next).0.steps) ≡ told_in (goes_on_traced (ss ++ ts) e cs next).0.steps) × ((goes_on_traced ts e cs next).0.end ≡ (goes_on_traced (ss ++ ts) e cs next).0.end)
          × ((goes_on_traced ts e cs next).1 ≡ (goes_on_traced (ss ++ ts) e cs next).1)
      on-behind ss ts (gave b m) cs next = (ap told_in (sym (append_assoc ss ts (next b cs m).0.steps)), refl, refl)
      on-behind ss ts (returned k v m) cs next = (refl, refl, refl)
      on-behind ss ts (failed_by y m) cs next = (refl, refl, refl)
      on-behind ss ts (stopped m) cs next = (refl, refl, refl)
after-at ss (returned k v m) cs go next x e = (ap (λ y. told_in y.0.steps) e, ap (λ y. y.0.end) e, ap (λ y. y.1) e)
after-at ss (failed_by y m) cs go next x e = (ap (λ y. told_in y.0.steps) e, ap (λ y. y.0.end) e, ap (λ y. y.1) e)
after-at ss (stopped m) cs go next x e = (ap (λ y. told_in y.0.steps) e, ap (λ y. y.0.end) e, ap (λ y. y.1) e)

pub after-same : {A B C : Type 0} (act : TracedAct A) (go : A → TracedAct B) (next : B → TracedAct C) → IsSame (then_traced (then_traced act go) next) (then_traced act (λ a. then_traced (go a) next))
unfolding then_traced
after-same act go next = record { so = λ cs m. after-at (act cs m).0.steps (act cs m).0.end (act cs m).1 go next _ refl }

-- what fails goes on with nothing
failed-same : {A B : Type 0} (e : RunError) (next : A → TracedAct B) → IsSame (then_traced (traced (traces.fails e)) next) (traced (traces.fails e))
unfolding then_traced traced
failed-same e next = record { so = λ cs m. (refl, refl, refl) }

-- what follows on a choice follows on both ways
pub chosen-same : (v : Value) (a b : TracedAct Value) (next : Value → TracedAct Value) →
    IsSame (then_traced (chooses resolved_traces.plain v a b) next) (chooses resolved_traces.plain v (then_traced a next) (then_traced b next))
chosen-same true_value a b next = same-refl _
chosen-same false_value a b next = same-refl _
chosen-same nil_value a b next = failed-same _ next
chosen-same (int_value z) a b next = failed-same _ next
chosen-same (char_value c) a b next = failed-same _ next
chosen-same (string_value t) a b next = failed-same _ next
chosen-same (symbol_value t) a b next = failed-same _ next
chosen-same (class_value c) a b next = failed-same _ next
chosen-same (object_value k) a b next = failed-same _ next
chosen-same (array_value k) a b next = failed-same _ next
chosen-same (closure_value k) a b next = failed-same _ next
chosen-same transcript_value a b next = failed-same _ next

-- a choice between acts that are the same
pub choice-same : (v : Value) (a b a' b' : TracedAct Value) → IsSame a a' → IsSame b b' → IsSame (chooses resolved_traces.plain v a b) (chooses resolved_traces.plain v a' b')
choice-same true_value a b a' b' p q = p
choice-same false_value a b a' b' p q = q
choice-same nil_value a b a' b' p q = same-refl _
choice-same (int_value z) a b a' b' p q = same-refl _
choice-same (char_value c) a b a' b' p q = same-refl _
choice-same (string_value t) a b a' b' p q = same-refl _
choice-same (symbol_value t) a b a' b' p q = same-refl _
choice-same (class_value c) a b a' b' p q = same-refl _
choice-same (object_value k) a b a' b' p q = same-refl _
choice-same (array_value k) a b a' b' p q = same-refl _
choice-same (closure_value k) a b a' b' p q = same-refl _
choice-same transcript_value a b a' b' p q = same-refl _
