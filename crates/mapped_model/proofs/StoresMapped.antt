-- Acts on stores with mapped names.
use Rattle.std.proofs.Common.{◌≡◌, ℕ, ◌-◌, List, [], ◌∷◌, ◌++◌, length, refl, sym, ap, ◌∙◌}
use Rattle.std.specs.Prelude.{Bool, true, false, if◌then◌else◌, nat_eq, nat_le, map}
use Rattle.std.specs.Option.{option_map}
use Rattle.std.proofs.lemmas.List.{map-append}
use Rattle.image_model.proofs.Lists.{length-map}
use Rattle.run_model.specs.Values.{Name, Value, closure_value, Event, RunError}
use Rattle.run_model.specs.Store.{Binding, holds, in_cell, Memory, Store, Exit, returns, ends_by, out_of_ticks, Result, fine, leaves}
use Rattle.run_model.specs.Acts.{gives, fails, goes_home, with_memory, tells, pays, ended, out_of_home, stops}
use Rattle.resolved_model.specs.ResolvedActs.{ResolvedFrame, ResolvedClosure, ResolvedAct, beside, goes_on_with, followed_by, in_home, looks_at, keeps}
use Rattle.mapped_model.specs.NameMaps.{NameMaps}
use Rattle.mapped_model.specs.MappedImages.{class_or_none, mapped_code}
use Rattle.mapped_model.specs.MappedRuns.{mapped_event, mapped_error}
use Rattle.mapped_model.proofs.ValuesMapped.{mapped_value, mapped_heap}

module _ (f : NameMaps) where
  -- a class-instance variable of a class
  abbrev pub mapped_side : Name × Name → Name × Name
  mapped_side k = (f.class k.0, f.class_side k)

  -- a memory
  abbrev pub mapped_memory : Memory → Memory
  mapped_memory m = record {
    heap = mapped_heap f m.heap;
    shared = map (λ e. (f.shared e.0, mapped_value f e.1)) m.shared;
    class_side = map (λ e. (mapped_side e.0, mapped_value f e.1)) m.class_side;
    cells = map (mapped_value f) m.cells;
    closures = m.closures;
    homes = m.homes;
  }

  -- a store
  abbrev pub mapped_store : Store → Store
  mapped_store s = record { memory = mapped_memory s.memory; events = map (mapped_event f) s.events; ticks = s.ticks }

  -- a binding
  abbrev pub mapped_binding : Binding → Binding
  mapped_binding (holds v) = holds (mapped_value f v)
  mapped_binding (in_cell k) = in_cell k

  -- a frame
  abbrev pub mapped_frame : ResolvedFrame → ResolvedFrame
  mapped_frame x = record { locals = map mapped_binding x.locals; me = mapped_value f x.me; home = record { number = x.home.number; class = option_map f.class x.home.class; meta = x.home.meta } }

  -- a closure
  abbrev pub mapped_closure : ResolvedClosure → ResolvedClosure
  mapped_closure c = record { code = mapped_code f (class_or_none c.frame.home.class) c.code; frame = mapped_frame c.frame }

  -- an exit
  abbrev pub mapped_exit : Exit → Exit
  mapped_exit (returns h v) = returns h (mapped_value f v)
  mapped_exit (ends_by e) = ends_by (mapped_error f e)
  mapped_exit out_of_ticks = out_of_ticks

  -- what an act comes to, with what stands for the thing that is given
  abbrev pub mapped_end : {A B : Type 0} → (A → B) → Result A → Result B
  mapped_end g (fine a s) = fine (g a) (mapped_store s)
  mapped_end g (leaves x s) = leaves (mapped_exit x) (mapped_store s)

  -- the same with the closures
  abbrev pub mapped_ends : {A B : Type 0} → (A → B) → Result A × List ResolvedClosure → Result B × List ResolvedClosure
  mapped_ends g x = (mapped_end g x.0, map mapped_closure x.1)

  -- the second act does with mapped names what the first does
  abbrev pub Maps : {A B : Type 0} → (A → B) → ResolvedAct A → ResolvedAct B → Type 0
  Maps g m m' = (cs : List ResolvedClosure) (s : Store) → m' (map mapped_closure cs) (mapped_store s) ≡ mapped_ends g (m cs s)

  -- giving
  pub gives-maps : {A B : Type 0} (g : A → B) (a : A) → Maps g (beside (gives a)) (beside (gives (g a)))
  unfolding gives beside
  gives-maps g a cs s = refl

  -- failing
  pub fails-maps : {A B : Type 0} (g : A → B) (e : RunError) → Maps g (beside (fails e)) (beside (fails (mapped_error f e)))
  unfolding fails beside
  fails-maps g e cs s = refl

  -- returning
  pub goes_home-maps : {A B : Type 0} (g : A → B) (h : ℕ) (v : Value) → Maps g (beside (goes_home h v)) (beside (goes_home h (mapped_value f v)))
  unfolding goes_home beside
  goes_home-maps g h v cs s = refl

  -- leaving off for want of depth
  pub stops-maps : {A B : Type 0} (g : A → B) → Maps g (beside stops) (beside stops)
  unfolding stops beside
  stops-maps g cs s = refl

  -- going on from a result
  then-maps : {A B C D : Type 0} (g : A → B) (h : C → D) (k : A → ResolvedAct C) (k' : B → ResolvedAct D) (x : Result A) (cs : List ResolvedClosure) (y : Result B × List ResolvedClosure) → y ≡ (mapped_end g x, map mapped_closure cs) → ((a : A) → Maps h (k a) (k' (g a))) →
      goes_on_with y.0 y.1 k' ≡ mapped_ends h (goes_on_with x cs k)
  then-maps g h k k' (fine a s) cs y e p = ap (λ r. goes_on_with r.0 r.1 k') e ∙ p a cs s
  then-maps g h k k' (leaves x s) cs y e p = ap (λ r. goes_on_with r.0 r.1 k') e

  -- going on
  pub then_maps : {A B C D : Type 0} (g : A → B) (h : C → D) (m : ResolvedAct A) (m' : ResolvedAct B) (k : A → ResolvedAct C) (k' : B → ResolvedAct D) → Maps g m m' → ((a : A) → Maps h (k a) (k' (g a))) → Maps h (followed_by m k) (followed_by m' k')
  unfolding followed_by
  then_maps g h m m' k k' p q cs s = then-maps g h k k' (m cs s).0 (m cs s).1 (m' (map mapped_closure cs) (mapped_store s)) (p cs s) q

  -- reading and changing the memory
  pub memory-maps : {A B : Type 0} (g : A → B) (l : Memory → A × Memory) (l' : Memory → B × Memory) → ((m : Memory) → l' (mapped_memory m) ≡ (g (l m).0, mapped_memory (l m).1)) → Maps g (beside (with_memory l)) (beside (with_memory l'))
  unfolding with_memory beside
  memory-maps {A} {B} g l l' e cs s = ap (λ (p : B × Memory). (fine p.0 (record (mapped_store s) { memory = p.1 }), map mapped_closure cs)) (e s.memory)

  -- reading closures and memory
  pub looks-maps : {A B : Type 0} (g : A → B) (l : List ResolvedClosure → Memory → A) (l' : List ResolvedClosure → Memory → B) → ((cs : List ResolvedClosure) (m : Memory) → l' (map mapped_closure cs) (mapped_memory m) ≡ g (l cs m)) → Maps g (looks_at l) (looks_at l')
  unfolding looks_at
  looks-maps g l l' e cs s = ap (λ b. (fine b (mapped_store s), map mapped_closure cs)) (e cs s.memory)

  -- keeping a closure
  pub keeps-maps : (c : ResolvedClosure) → Maps (mapped_value f) (keeps c) (keeps (mapped_closure c))
  unfolding keeps
  keeps-maps c cs s =
      ap (λ n. (fine (closure_value n) (mapped_store s), map mapped_closure cs ++ mapped_closure c ∷ [])) (length-map mapped_closure cs)
      ∙ ap (λ l. (fine (closure_value (length cs)) (mapped_store s), l)) (sym (map-append mapped_closure cs (c ∷ [])))

  -- telling an event
  pub tells-maps : {A B : Type 0} (g : A → B) (e : Event) (a : A) → Maps g (beside (tells e a)) (beside (tells (mapped_event f e) (g a)))
  unfolding tells beside
  tells-maps g e a cs s = ap (λ es. (fine (g a) (record (mapped_store s) { events = es }), map mapped_closure cs)) (sym (map-append (mapped_event f) s.events (e ∷ [])))

  -- paying ticks, by whether there are as many
  pays-by : {A B : Type 0} (g : A → B) (n : ℕ) (a : A) (cs : List ResolvedClosure) (s : Store) (b : Bool) →
      ((if b then fine (g a) (record (mapped_store s) { ticks = s.ticks - n }) else leaves out_of_ticks (record (mapped_store s) { ticks = 0 })), map mapped_closure cs)
      ≡ mapped_ends g ((if b then fine a (record s { ticks = s.ticks - n }) else leaves out_of_ticks (record s { ticks = 0 })), cs)
  pays-by g n a cs s true = refl
  pays-by g n a cs s false = refl

  -- paying ticks
  pub pays-maps : {A B : Type 0} (g : A → B) (n : ℕ) (a : A) → Maps g (beside (pays n a)) (beside (pays n (g a)))
  unfolding pays beside
  pays-maps g n a cs s = pays-by g n a cs s (nat_le n s.ticks)

  -- a return that may end in a home
  returned-by : (h k : ℕ) (v : Value) (s : Store) (b : Bool) →
      (if b then fine (mapped_value f v) (ended h (mapped_store s)) else leaves (returns k (mapped_value f v)) (ended h (mapped_store s))) ≡ mapped_end (mapped_value f) (if b then fine v (ended h s) else leaves (returns k v) (ended h s))
  returned-by h k v s true = refl
  returned-by h k v s false = refl

  -- what comes out of a home
  pub home-by : (h : ℕ) (x : Result Value) → out_of_home h (mapped_end (mapped_value f) x) ≡ mapped_end (mapped_value f) (out_of_home h x)
  home-by h (fine v s) = refl
  home-by h (leaves (returns k v) s) = returned-by h k v s (nat_eq k h)
  home-by h (leaves (ends_by e) s) = refl
  home-by h (leaves out_of_ticks s) = refl

  -- an act in a home
  pub home-maps : (h : ℕ) (m m' : ResolvedAct Value) → Maps (mapped_value f) m m' → Maps (mapped_value f) (in_home h m) (in_home h m')
  unfolding in_home
  home-maps h m m' p cs s = ap (λ r. (out_of_home h r.0, r.1)) (p cs s) ∙ ap (λ x. (x, map mapped_closure (m cs s).1)) (home-by h (m cs s).0)
