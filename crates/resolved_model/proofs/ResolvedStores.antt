-- Acts on stores with closures, and acts that do the same beside resolved closures.
use Rattle.std.proofs.Common.{◌≡◌, ℕ, ◌-◌, List, [], ◌∷◌, ◌++◌, length, refl, sym, ap, ◌∙◌}
use Rattle.std.specs.Prelude.{Bool, true, false, if◌then◌else◌, nat_eq, nat_le, map}
use Rattle.std.proofs.lemmas.List.{map-append}
use Rattle.image_model.proofs.Lists.{length-map}
use Rattle.run_model.specs.Values.{Value, closure_value, Event, RunError}
use Rattle.run_model.specs.Store.{Closure, Memory, Store, with_closure, returns, ends_by, out_of_ticks, Result, fine, leaves}
use Rattle.run_model.specs.Acts.{Act, then_do, gives, fails, goes_home, and_then, with_memory, tells, pays, at_home, ended, out_of_home, stops}
use Rattle.resolved_model.specs.ResolvedActs.{ResolvedClosure, ResolvedAct, beside, goes_on_with, followed_by, in_home, looks_at, keeps}

-- the memory without its closures
abbrev pub no_closures : Memory → Memory
no_closures m = record m { closures = [] }

-- the store without its closures
abbrev pub cleared : Store → Store
cleared s = record s { memory = no_closures s.memory }

-- a thing as it is
abbrev pub same : {A : Type 0} → A → A
same a = a

module _ (rc : Closure → ResolvedClosure) where
  -- the resolved closures of a store
  abbrev pub closures_of : Store → List ResolvedClosure
  closures_of s = map rc s.memory.closures

  -- the result without closures, with what stands for the thing that is given, and the resolved closures beside it
  abbrev pub apart : {A B : Type 0} → (A → B) → Result A → Result B × List ResolvedClosure
  apart g (fine a s) = (fine (g a) (cleared s), closures_of s)
  apart g (leaves x s) = (leaves x (cleared s), closures_of s)

  -- the second act does beside resolved closures what the first does
  abbrev pub Resolves : {A B : Type 0} → (A → B) → Act A → ResolvedAct B → Type 0
  Resolves g m m' = (s : Store) → m' (closures_of s) (cleared s) ≡ apart g (m s)

  -- giving
  pub gives-resolved : {A B : Type 0} (g : A → B) (a : A) → Resolves g (gives a) (beside (gives (g a)))
  unfolding gives beside
  gives-resolved g a s = refl

  -- failing
  pub fails-resolved : {A B : Type 0} (g : A → B) (e : RunError) → Resolves g (fails e) (beside (fails e))
  unfolding fails beside
  fails-resolved g e s = refl

  -- returning
  pub goes_home-resolved : {A B : Type 0} (g : A → B) (h : ℕ) (v : Value) → Resolves g (goes_home h v) (beside (goes_home h v))
  unfolding goes_home beside
  goes_home-resolved g h v s = refl

  -- leaving off for want of depth
  pub stops-resolved : {A B : Type 0} (g : A → B) → Resolves g stops (beside stops)
  unfolding stops beside
  stops-resolved g s = refl

  -- going on from a result
  then-apart : {A B C D : Type 0} (g : A → B) (h : C → D) (k : A → Act C) (k' : B → ResolvedAct D) (x : Result A) (y : Result B × List ResolvedClosure) → y ≡ apart g x → ((a : A) → Resolves h (k a) (k' (g a))) →
      goes_on_with y.0 y.1 k' ≡ apart h (then_do x k)
  then-apart g h k k' (fine a s) y e f = ap (λ r. goes_on_with r.0 r.1 k') e ∙ f a s
  then-apart g h k k' (leaves x s) y e f = ap (λ r. goes_on_with r.0 r.1 k') e

  -- going on
  pub then_resolved : {A B C D : Type 0} (g : A → B) (h : C → D) (m : Act A) (m' : ResolvedAct B) (k : A → Act C) (k' : B → ResolvedAct D) → Resolves g m m' → ((a : A) → Resolves h (k a) (k' (g a))) → Resolves h (and_then m k) (followed_by m' k')
  unfolding and_then followed_by
  then_resolved g h m m' k k' p f s = then-apart g h k k' (m s) (m' (closures_of s) (cleared s)) (p s) f

  -- reading and changing what is no closure
  pub memory-resolved : {A B : Type 0} (g : A → B) (f : Memory → A × Memory) (f' : Memory → B × Memory) → ((m : Memory) → f' (no_closures m) ≡ (g (f m).0, no_closures (f m).1)) → ((m : Memory) → (f m).1.closures ≡ m.closures) →
      Resolves g (with_memory f) (beside (with_memory f'))
  unfolding with_memory beside
  memory-resolved {A} {B} g f f' e h s =
      ap (λ (p : B × Memory). (fine p.0 (record s { memory = p.1 }), closures_of s)) (e s.memory)
      ∙ ap (λ cs. (fine (g (f s.memory).0) (cleared (record s { memory = (f s.memory).1 })), map rc cs)) (sym (h s.memory))

  -- reading closures and memory
  pub looks-resolved : {A B : Type 0} (g : A → B) (f : Memory → A) (f' : List ResolvedClosure → Memory → B) → ((m : Memory) → f' (map rc m.closures) (no_closures m) ≡ g (f m)) → Resolves g (with_memory (λ m. (f m, m))) (looks_at f')
  unfolding with_memory looks_at
  looks-resolved g f f' e s = ap (λ b. (fine b (cleared s), closures_of s)) (e s.memory)

  -- keeping a closure
  pub keeps-resolved : (c : Closure) → Resolves same (with_memory (λ m. (closure_value (length m.closures), with_closure m c))) (keeps (rc c))
  unfolding with_memory keeps
  keeps-resolved c s =
      ap (λ n. (fine (closure_value n) (cleared s), map rc s.memory.closures ++ rc c ∷ [])) (length-map rc s.memory.closures)
      ∙ ap (λ cs. (fine (closure_value (length s.memory.closures)) (cleared s), cs)) (sym (map-append rc s.memory.closures (c ∷ [])))

  -- telling an event
  pub tells-resolved : {A B : Type 0} (g : A → B) (e : Event) (a : A) → Resolves g (tells e a) (beside (tells e (g a)))
  unfolding tells beside
  tells-resolved g e a s = refl

  -- paying ticks, by whether there are as many
  pays-by : {A B : Type 0} (g : A → B) (n : ℕ) (a : A) (s : Store) (b : Bool) →
      ((if b then fine (g a) (record (cleared s) { ticks = s.ticks - n }) else leaves out_of_ticks (record (cleared s) { ticks = 0 })), closures_of s)
      ≡ apart g (if b then fine a (record s { ticks = s.ticks - n }) else leaves out_of_ticks (record s { ticks = 0 }))
  pays-by g n a s true = refl
  pays-by g n a s false = refl

  -- paying ticks
  pub pays-resolved : {A B : Type 0} (g : A → B) (n : ℕ) (a : A) → Resolves g (pays n a) (beside (pays n (g a)))
  unfolding pays beside
  pays-resolved g n a s = pays-by g n a s (nat_le n s.ticks)

  -- a return that may end in a home
  returned-by : (h k : ℕ) (v : Value) (s : Store) (b : Bool) →
      ((if b then fine v (ended h (cleared s)) else leaves (returns k v) (ended h (cleared s))), closures_of s) ≡ apart same (if b then fine v (ended h s) else leaves (returns k v) (ended h s))
  returned-by h k v s true = refl
  returned-by h k v s false = refl

  -- what comes out of a home
  home-apart : (h : ℕ) (x : Result Value) → (out_of_home h (apart same x).0, (apart same x).1) ≡ apart same (out_of_home h x)
  home-apart h (fine v s) = refl
  home-apart h (leaves (returns k v) s) = returned-by h k v s (nat_eq k h)
  home-apart h (leaves (ends_by e) s) = refl
  home-apart h (leaves out_of_ticks s) = refl

  -- an act in a home
  pub home-resolved : (h : ℕ) (m : Act Value) (m' : ResolvedAct Value) → Resolves same m m' → Resolves same (at_home h m) (in_home h m')
  unfolding at_home in_home
  home-resolved h m m' p s = ap (λ r. (out_of_home h r.0, r.1)) (p s) ∙ home-apart h (m s)
