-- Acts that do with mapped names what others do, from a store on in which code runs on objects and classes that have its variables.
use Rattle.std.proofs.Common.{◌≡◌, ℕ, ◌-◌, List, Option, Some, None, refl, sym, ap, ◌∙◌, subst}
use Rattle.std.specs.Prelude.{Bool, true, false, if◌then◌else◌, nat_eq, nat_le, map}
use Rattle.run_model.specs.Values.{Name, Value, nil_value, Event, RunError}
use Rattle.run_model.specs.Store.{Object, Heap, Memory, Store, returns, ends_by, out_of_ticks, Result, fine, leaves}
use Rattle.run_model.specs.Acts.{gives, fails, goes_home, with_memory, tells, pays, ended, out_of_home, stops}
use Rattle.run_model.specs.Eval.{tells_any}
use Rattle.run_model.specs.Runs.{store_of}
use Rattle.resolved_model.specs.ResolvedActs.{ResolvedClosure, ResolvedAct, resolved_acts, beside, goes_on_with, followed_by, in_home, looks_at, keeps}
use Rattle.mapped_model.specs.NameMaps.{NameMaps}
use Rattle.mapped_model.specs.MappedRuns.{mapped_event, mapped_error}
use Rattle.mapped_model.proofs.ValuesMapped.{mapped_value}
use Rattle.mapped_model.proofs.Objects.{Later, at-once, later-on}
use Rattle.mapped_model.proofs.Homes.{StandEach, StandsClosure, stand-later, stand-more}
use Rattle.mapped_model.proofs.StoresMapped.{mapped_memory, mapped_store, mapped_closure, mapped_end, mapped_ends, gives-maps, fails-maps, goes_home-maps, stops-maps, keeps-maps, tells-maps, pays-maps, home-by}

-- the objects of a store
abbrev pub objects_in : Store → List Object
objects_in s = s.memory.heap.objects

-- the objects at the end
abbrev pub objects_at_end : {A : Type 0} → Result A → List Object
objects_at_end r = objects_in (store_of r)

-- what is known of a thing that is given
abbrev pub Given : {A : Type 0} → (A → Type 0) → Result A → Type 0
Given P (fine a s) = P a
Given P (leaves x s) = Unit {0}

module _ (f : NameMaps) (Instance : Name → Name → Type 0) (ClassSide : Name → Bool → Name → Type 0) where
  -- the closures stand
  abbrev pub Stand : List Object → List ResolvedClosure → Type 0
  Stand os cs = StandEach f Instance ClassSide os cs

  -- in a store the second act does with mapped names what the first does; objects keep their classes, and closures stand
  pub record Held {A B : Type 0} (g : A → B) (m : ResolvedAct A) (m' : ResolvedAct B) (cs : List ResolvedClosure) (s : Store) : Type 0 where
    pub same : m' (map (mapped_closure f) cs) (mapped_store f s) ≡ mapped_ends f g (m cs s)
    pub later : Later (objects_in s) (objects_at_end (m cs s).0)
    pub stand : Stand (objects_at_end (m cs s).0) (m cs s).1

  -- so it is in each later store in which closures stand
  abbrev pub Holds : {A B : Type 0} → List Object → (A → B) → ResolvedAct A → ResolvedAct B → Type 0
  Holds os g m m' = (cs : List ResolvedClosure) (s : Store) → Later os (objects_in s) → Stand (objects_in s) cs → Held g m m' cs s

  -- giving
  pub gives-holds : {A B : Type 0} (os : List Object) (g : A → B) (a : A) → Holds os g (beside (gives a)) (beside (gives (g a)))
  unfolding gives beside
  gives-holds os g a cs s l h = record { same = gives-maps f g a cs s; later = at-once (objects_in s); stand = h }

  -- failing
  pub fails-holds : {A B : Type 0} (os : List Object) (g : A → B) (e : RunError) → Holds os g (beside (fails e)) (beside (fails (mapped_error f e)))
  unfolding fails beside
  fails-holds os g e cs s l h = record { same = fails-maps f g e cs s; later = at-once (objects_in s); stand = h }

  -- returning
  pub goes_home-holds : {A B : Type 0} (os : List Object) (g : A → B) (n : ℕ) (v : Value) → Holds os g (beside (goes_home n v)) (beside (goes_home n (mapped_value f v)))
  unfolding goes_home beside
  goes_home-holds os g n v cs s l h = record { same = goes_home-maps f g n v cs s; later = at-once (objects_in s); stand = h }

  -- leaving off for want of depth
  pub stops-holds : {A B : Type 0} (os : List Object) (g : A → B) → Holds os g (beside stops) (beside stops)
  unfolding stops beside
  stops-holds os g cs s l h = record { same = stops-maps f g cs s; later = at-once (objects_in s); stand = h }

  -- telling an event
  pub tells-holds : {A B : Type 0} (os : List Object) (g : A → B) (e : Event) (a : A) → Holds os g (beside (tells e a)) (beside (tells (mapped_event f e) (g a)))
  unfolding tells beside
  tells-holds os g e a cs s l h = record { same = tells-maps f g e a cs s; later = at-once (objects_in s); stand = h }

  -- paying ticks, by whether there are as many
  pays-objects : {A : Type 0} (n : ℕ) (a : A) (s : Store) (b : Bool) → objects_at_end (if b then fine a (record s { ticks = s.ticks - n }) else leaves out_of_ticks (record s { ticks = 0 })) ≡ objects_in s
  pays-objects n a s true = refl
  pays-objects n a s false = refl

  -- paying ticks
  pub pays-holds : {A B : Type 0} (os : List Object) (g : A → B) (n : ℕ) (a : A) → Holds os g (beside (pays n a)) (beside (pays n (g a)))
  unfolding pays beside
  pays-holds os g n a cs s l h = record {
    same = pays-maps f g n a cs s;
    later = subst (λ x. Later (objects_in s) x) (sym (pays-objects n a s (nat_le n s.ticks))) (at-once (objects_in s));
    stand = subst (λ x. Stand x cs) (sym (pays-objects n a s (nat_le n s.ticks))) h;
  }

  -- reading and changing the memory
  pub memory-holds : {A B : Type 0} (os : List Object) (g : A → B) (l : Memory → A × Memory) (l' : Memory → B × Memory) →
      ((m : Memory) → Later os m.heap.objects → l' (mapped_memory f m) ≡ (g (l m).0, mapped_memory f (l m).1)) → ((m : Memory) → Later m.heap.objects (l m).1.heap.objects) → Holds os g (beside (with_memory l)) (beside (with_memory l'))
  unfolding with_memory beside
  memory-holds {A} {B} os g l l' e p cs s q h = record {
    same = ap (λ (x : B × Memory). (fine x.0 (record (mapped_store f s) { memory = x.1 }), map (mapped_closure f) cs)) (e s.memory q);
    later = p s.memory;
    stand = stand-later f Instance ClassSide (objects_in s) ((l s.memory).1.heap.objects) (p s.memory) cs h;
  }

  -- keeping a closure that stands
  pub keeps-holds : (os : List Object) (c : ResolvedClosure) → ((now : List Object) → Later os now → StandsClosure f Instance ClassSide now c) → Holds os (mapped_value f) (keeps c) (keeps (mapped_closure f c))
  unfolding keeps
  keeps-holds os c p cs s l h = record { same = keeps-maps f c cs s; later = at-once (objects_in s); stand = stand-more f Instance ClassSide (objects_in s) cs c h (p (objects_in s) l) }

  -- going on from a result
  then-held : {A B C D : Type 0} (os : List Object) (g : A → B) (h : C → D) (P : A → Type 0) (k : A → ResolvedAct C) (k' : B → ResolvedAct D) (s : Store) (x : Result A) (cs : List ResolvedClosure) (y : Result B × List ResolvedClosure) →
      Later os (objects_in s) → y ≡ (mapped_end f g x, map (mapped_closure f) cs) → Later (objects_in s) (objects_at_end x) → Stand (objects_at_end x) cs → Given P x → ((a : A) → P a → Holds os h (k a) (k' (g a))) →
      (goes_on_with y.0 y.1 k' ≡ mapped_ends f h (goes_on_with x cs k)) × Later (objects_in s) (objects_at_end (goes_on_with x cs k).0) × Stand (objects_at_end (goes_on_with x cs k).0) (goes_on_with x cs k).1
  then-held os g h P k k' s (fine a t) cs y l e p q r go =
      let next = go a r cs t (later-on os (objects_in s) (objects_in t) l p) q in
      (ap (λ z. goes_on_with z.0 z.1 k') e ∙ next.same, later-on (objects_in s) (objects_in t) (objects_at_end (k a cs t).0) p next.later, next.stand)
  then-held os g h P k k' s (leaves x t) cs y l e p q r go = (ap (λ z. goes_on_with z.0 z.1 k') e, p, q)

  -- going on, where something is known of what is given
  pub then-known : {A B C D : Type 0} (os : List Object) (g : A → B) (h : C → D) (P : A → Type 0) (m : ResolvedAct A) (m' : ResolvedAct B) (k : A → ResolvedAct C) (k' : B → ResolvedAct D) →
      Holds os g m m' → ((cs : List ResolvedClosure) (s : Store) → Given P (m cs s).0) → ((a : A) → P a → Holds os h (k a) (k' (g a))) → Holds os h (followed_by m k) (followed_by m' k')
  unfolding followed_by
  then-known os g h P m m' k k' p known q cs s l stand =
      let first = p cs s l stand in
      let both = then-held os g h P k k' s (m cs s).0 (m cs s).1 (m' (map (mapped_closure f) cs) (mapped_store f s)) l first.same first.later first.stand (known cs s) q in
      record { same = both.0; later = both.1; stand = both.2 }

  -- what holds of everything is known of what is given
  all-known : {A : Type 0} (x : Result A) → Given (λ a. Unit {0}) x
  all-known (fine a s) = tt
  all-known (leaves x s) = tt

  -- going on
  pub then_holds : {A B C D : Type 0} (os : List Object) (g : A → B) (h : C → D) (m : ResolvedAct A) (m' : ResolvedAct B) (k : A → ResolvedAct C) (k' : B → ResolvedAct D) →
      Holds os g m m' → ((a : A) → Holds os h (k a) (k' (g a))) → Holds os h (followed_by m k) (followed_by m' k')
  then_holds os g h m m' k k' p q = then-known os g h (λ a. Unit {0}) m m' k k' p (λ cs s. all-known (m cs s).0) (λ a u. q a)

  -- reading closures and memory, and going on in the same store
  pub looks-then : {A B C D : Type 0} (os : List Object) (h : C → D) (l : List ResolvedClosure → Memory → A) (l' : List ResolvedClosure → Memory → B) (k : A → ResolvedAct C) (k' : B → ResolvedAct D) →
      ((cs : List ResolvedClosure) (s : Store) → Later os (objects_in s) → Stand (objects_in s) cs → Held h (k (l cs s.memory)) (k' (l' (map (mapped_closure f) cs) (mapped_memory f s.memory))) cs s) →
      Holds os h (followed_by (looks_at l) k) (followed_by (looks_at l') k')
  unfolding followed_by looks_at
  looks-then os h l l' k k' p cs s q stand =
      let next = p cs s q stand in
      record { same = next.same; later = next.later; stand = next.stand }

  -- reading the memory, and going on in the same store
  pub memory-then : {A B C D : Type 0} (os : List Object) (h : C → D) (l : Memory → A) (l' : Memory → B) (k : A → ResolvedAct C) (k' : B → ResolvedAct D) →
      ((cs : List ResolvedClosure) (s : Store) → Later os (objects_in s) → Stand (objects_in s) cs → Held h (k (l s.memory)) (k' (l' (mapped_memory f s.memory))) cs s) →
      Holds os h (followed_by (beside (with_memory (λ m. (l m, m)))) k) (followed_by (beside (with_memory (λ m. (l' m, m)))) k')
  unfolding followed_by beside with_memory
  memory-then os h l l' k k' p cs s q stand =
      let next = p cs s q stand in
      record { same = next.same; later = next.later; stand = next.stand }

  -- what comes out of a home has the same objects
  home-objects : (n : ℕ) (r : Result Value) → objects_at_end (out_of_home n r) ≡ objects_at_end r
  home-objects n (fine v s) = refl
  home-objects n (leaves (returns k v) s) = by (nat_eq k n)
    where
      by : (b : Bool) → objects_at_end (if b then fine v (ended n s) else leaves (returns k v) (ended n s)) ≡ objects_in s
      by true = refl
      by false = refl
  home-objects n (leaves (ends_by e) s) = refl
  home-objects n (leaves out_of_ticks s) = refl

  -- an act in a home
  pub home-holds : (os : List Object) (n : ℕ) (m m' : ResolvedAct Value) → Holds os (mapped_value f) m m' → Holds os (mapped_value f) (in_home n m) (in_home n m')
  unfolding in_home
  home-holds os n m m' p cs s l h =
      let first = p cs s l h in
      record {
        same = ap (λ r. (out_of_home n r.0, r.1)) first.same ∙ ap (λ x. (x, map (mapped_closure f) (m cs s).1)) (home-by f n (m cs s).0);
        later = subst (λ x. Later (objects_in s) x) (sym (home-objects n (m cs s).0)) first.later;
        stand = subst (λ x. Stand x (m cs s).1) (sym (home-objects n (m cs s).0)) first.stand;
      }

  -- ticks, an event that there may be, and then another heap in which objects are of the same classes
  pub answer-kept : (n : ℕ) (told : Option Event) (v : Value) (h : Heap) (cs : List ResolvedClosure) (s : Store) → Later (objects_in s) h.objects → Stand (objects_in s) cs →
      let r = followed_by (beside (pays n nil_value)) (λ u. followed_by (tells_any resolved_acts.plain told) (λ u. beside (with_memory (λ m. (v, record m { heap = h }))))) cs s in
      Later (objects_in s) (objects_at_end r.0) × Stand (objects_at_end r.0) r.1
  unfolding followed_by beside pays tells gives with_memory
  answer-kept n told v h cs s l stand = by (nat_le n s.ticks) told
    where
      by : (b : Bool) (told : Option Event) →
          let r = goes_on_with (if b then fine nil_value (record s { ticks = s.ticks - n }) else leaves out_of_ticks (record s { ticks = 0 })) cs (λ u. followed_by (tells_any resolved_acts.plain told) (λ u. beside (with_memory (λ m. (v, record m { heap = h }))))) in
          Later (objects_in s) (objects_at_end r.0) × Stand (objects_at_end r.0) r.1
      by true (Some e) = (l, stand-later f Instance ClassSide (objects_in s) h.objects l cs stand)
      by true None = (l, stand-later f Instance ClassSide (objects_in s) h.objects l cs stand)
      by false told = (at-once (objects_in s), stand)
