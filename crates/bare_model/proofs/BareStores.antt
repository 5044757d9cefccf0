-- Stores whose closures have no comments, and acts in them.
use Rattle.std.proofs.Common.{◌≡◌, ℕ, ◌-◌, refl, ap, ◌∙◌}
use Rattle.std.specs.Prelude.{Bool, true, false, if◌then◌else◌, nat_eq, nat_le, map}
use Rattle.tree_model.specs.Bare.{bare_sequence}
use Rattle.run_model.specs.Values.{Value, Event, RunError}
use Rattle.run_model.specs.Store.{Closure, Memory, Store, returns, ends_by, out_of_ticks, Result, fine, leaves}
use Rattle.run_model.specs.Acts.{Act, then_do, gives, fails, goes_home, and_then, with_memory, tells, pays, at_home, ended, out_of_home}

-- the closure without comments
abbrev pub bare_closure : Closure → Closure
bare_closure c = record c { body = bare_sequence c.body }

-- the memory with such closures
abbrev pub bare_memory : Memory → Memory
bare_memory m = record m { closures = map bare_closure m.closures }

-- the store with such closures
abbrev pub bare_store : Store → Store
bare_store s = record s { memory = bare_memory s.memory }

-- the result with such closures, and with what stands for the thing that is given
abbrev pub bare_result : {A B : Type 0} → (A → B) → Result A → Result B
bare_result g (fine a s) = fine (g a) (bare_store s)
bare_result g (leaves x s) = leaves x (bare_store s)

-- the second act does without comments what the first does
abbrev pub Bares : {A B : Type 0} → (A → B) → Act A → Act B → Type 0
Bares g m m' = (s : Store) → m' (bare_store s) ≡ bare_result g (m s)

-- a thing as it is
abbrev pub same : {A : Type 0} → A → A
same a = a

-- giving
pub gives-bare : {A B : Type 0} (g : A → B) (a : A) → Bares g (gives a) (gives (g a))
unfolding gives
gives-bare g a s = refl

-- failing
pub fails-bare : {A B : Type 0} (g : A → B) (e : RunError) → Bares g (fails e) (fails e)
unfolding fails
fails-bare g e s = refl

-- returning
pub goes_home-bare : {A B : Type 0} (g : A → B) (h : ℕ) (v : Value) → Bares g (goes_home h v) (goes_home h v)
unfolding goes_home
goes_home-bare g h v s = refl

-- going on from a result
then-bare : {A B C D : Type 0} (g : A → B) (h : C → D) (k : A → Act C) (k' : B → Act D) (x : Result A) (y : Result B) → y ≡ bare_result g x → ((a : A) → Bares h (k a) (k' (g a))) → then_do y k' ≡ bare_result h (then_do x k)
then-bare g h k k' (fine a s) y e f = ap (λ r. then_do r k') e ∙ f a s
then-bare g h k k' (leaves x s) y e f = ap (λ r. then_do r k') e

-- going on
pub then_bare : {A B C D : Type 0} (g : A → B) (h : C → D) (m : Act A) (m' : Act B) (k : A → Act C) (k' : B → Act D) → Bares g m m' → ((a : A) → Bares h (k a) (k' (g a))) → Bares h (and_then m k) (and_then m' k')
unfolding and_then
then_bare g h m m' k k' p f s = then-bare g h k k' (m s) (m' (bare_store s)) (p s) f

-- reading and changing the memory
pub memory-bare : {A B : Type 0} (g : A → B) (f : Memory → A × Memory) (f' : Memory → B × Memory) → ((m : Memory) → f' (bare_memory m) ≡ (g ((f m).0), bare_memory ((f m).1))) → Bares g (with_memory f) (with_memory f')
unfolding with_memory
memory-bare {A} {B} g f f' e s = ap (λ (p : B × Memory). fine p.0 (record s { memory = p.1 })) (e s.memory)

-- telling an event
pub tells-bare : {A B : Type 0} (g : A → B) (e : Event) (a : A) → Bares g (tells e a) (tells e (g a))
unfolding tells
tells-bare g e a s = refl

-- paying ticks, by whether there are as many
pays-by : {A B : Type 0} (g : A → B) (n : ℕ) (a : A) (s : Store) (b : Bool) →
    (if b then fine (g a) (record (bare_store s) { ticks = s.ticks - n }) else leaves out_of_ticks (record (bare_store s) { ticks = 0 }))
    ≡ bare_result g (if b then fine a (record s { ticks = s.ticks - n }) else leaves out_of_ticks (record s { ticks = 0 }))
pays-by g n a s true = refl
pays-by g n a s false = refl

-- paying ticks
pub pays-bare : {A B : Type 0} (g : A → B) (n : ℕ) (a : A) → Bares g (pays n a) (pays n (g a))
unfolding pays
pays-bare g n a s = pays-by g n a s (nat_le n s.ticks)

-- a return that may end in a home
returned-by : (h k : ℕ) (v : Value) (s : Store) (b : Bool) →
    (if b then fine v (ended h (bare_store s)) else leaves (returns k v) (ended h (bare_store s))) ≡ bare_result same (if b then fine v (ended h s) else leaves (returns k v) (ended h s))
returned-by h k v s true = refl
returned-by h k v s false = refl

-- what comes out of a home
home-bare : (h : ℕ) (x : Result Value) → out_of_home h (bare_result same x) ≡ bare_result same (out_of_home h x)
home-bare h (fine v s) = refl
home-bare h (leaves (returns k v) s) = returned-by h k v s (nat_eq k h)
home-bare h (leaves (ends_by e) s) = refl
home-bare h (leaves out_of_ticks s) = refl

-- an act in a home
pub at_home-bare : (h : ℕ) (m m' : Act Value) → Bares same m m' → Bares same (at_home h m) (at_home h m')
unfolding at_home
at_home-bare h m m' p s = ap (out_of_home h) (p s) ∙ home-bare h (m s)
