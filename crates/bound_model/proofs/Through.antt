-- Conditions that look through methods, and the bounds of all conditions of a command.
use Rattle.std.proofs.Common.{◌≡◌, ◌≤◌, ◌+◌, ◌*◌, ℕ, zero, suc, List, [], ◌∷◌, ◌++◌, length, map, filter, filter_map, Bool, true, false, cond, if◌then◌else◌, not, ◌&&◌, Option, Some, None, option_map, refl, sym, ap, ◌∙◌, subst, arith, length-append}
use Rattle.std.specs.List.{sum_by, cons_option}
use Rattle.std.specs.Option.{option_map_or}
use Rattle.std.proofs.lemmas.List.Elements.{filter-append}
use Rattle.std.proofs.lemmas.List.Sums.{sum_by-cons}
use Rattle.image_model.specs.Image.{EntryOf, ImageOf}
use Rattle.command_model.specs.Asked.{AskedOf}
use Rattle.command_model.specs.CodeEffects.{part_at, send_at, target_of}
use Rattle.command_model.specs.CodeNeeds.{target_needs}
use Rattle.command_model.specs.Commands.{CommandOf, RenameClass, AddClass, RemoveClass, AddInstVar, RenameInstVar, RemoveInstVar, PushUpInstVar, PushDownInstVar, AddClassVar, RenameClassVar, RemoveClassVar, PushUpClassVar, PushDownClassVar, AddClassSideVar, RenameClassSideVar, RemoveClassSideVar, RenameSelector, AddMethod, RemoveMethod, PushUpMethod, PushDownMethod, AddParameter, RemoveParameter, AbstractInstVar, ExtractMethod, InlineMethod, ExtractTemp, InlineTemp, RenameTemp}
use Rattle.command_model.specs.Conditions.{AtPart, ConditionOf, NotImplements, NoSuper, MeansSame, Unreached, ChildOf, VariableFree, Arity, SelectorFresh, Shallow, NotIn, AtomLiteral, Inlinable, PlainActuals, NoCapture, NoNewControl}
use Rattle.command_model.specs.Extracted.{free_temporaries}
use Rattle.command_model.specs.Hierarchy.{superclass_name, receivers}
use Rattle.command_model.specs.Needs.{needs}
use Rattle.command_model.specs.Parts.{Part}
use Rattle.command_model.specs.Places.{SendOf}
use Rattle.bound_model.specs.Listed.{listed}
use Rattle.bound_model.specs.Bounds.{looks_through, asked_for, condition_bound}

module _ {N : Type 0} where
  -- how many of them look through methods
  abbrev pub through : List (ConditionOf N) → ℕ
  through cs = length (filter looks_through cs)

  through-append : (cs ds : List (ConditionOf N)) → through (cs ++ ds) ≡ through cs + through ds
  through-append cs ds = ap length (filter-append looks_through cs ds) ∙ length-append (filter looks_through cs) (filter looks_through ds)

  through-none : {X : Type 0} (f : X → ConditionOf N) → ((x : X) → looks_through (f x) ≡ false) → (xs : List X) → through (map f xs) ≡ 0
  through-none f never [] = refl
  through-none f never (x ∷ xs) = rw (never x) (through-none f never xs)

  -- conditions that are there if something is given
  through-given : {X : Type 0} (o : Option X) (f : X → List (ConditionOf N)) → ((x : X) → through (f x) ≤ 1) → through (option_map_or f o []) ≤ 1
  through-given None f few = omega arith
  through-given (Some x) f few = few x

  through-unnamed : (s x : N) (ms : List (EntryOf N)) → through (filter_map (λ (m : EntryOf N). option_map (λ c. NotIn c m.meta s x) m.class) ms) ≡ 0
  through-unnamed s x [] = refl
  through-unnamed s x (m ∷ ms) = by m.class (through-unnamed s x ms)
    where
      by : (o : Option N) → through (filter_map (λ (e : EntryOf N). option_map (λ c. NotIn c e.meta s x) e.class) ms) ≡ 0
          → through (cons_option (option_map (λ c. NotIn c m.meta s x) o) (filter_map (λ (e : EntryOf N). option_map (λ c. NotIn c e.meta s x) e.class) ms)) ≡ 0
      by None none = none
      by (Some c) none = none

module _ {N : Type 0} (a : AskedOf N) (i : ImageOf N) where
  through-target : (c : N) (meta : Bool) (s : N) (from to : ℕ) (e : SendOf N) → through (target_needs a i c meta s from to e) ≤ 1
  through-target c meta s from to e =
      through-given (target_of a i c meta e)
      (λ (target : EntryOf N). option_map_or (λ d. Inlinable d target.meta e.selector ∷ []) target.class []
      ++ PlainActuals c meta s from to ∷ NoCapture c meta s (AtPart from to) ∷ NoNewControl c meta s (AtPart from to) ∷ Shallow ∷ [])
      (λ target. one target target.class)
    where
      one : (target : EntryOf N) (o : Option N) → through (option_map_or (λ d. Inlinable d target.meta e.selector ∷ []) o []
          ++ PlainActuals c meta s from to ∷ NoCapture c meta s (AtPart from to) ∷ NoNewControl c meta s (AtPart from to) ∷ Shallow ∷ []) ≤ 1
      one target None = omega arith
      one target (Some d) = omega arith

  -- at most two conditions of a command do
  pub through-few : (command : CommandOf N) → through (needs a i command) ≤ 2
  through-few (RenameClass c d) = omega arith
  through-few (AddClass d p under) = omega (arith, through-none (λ s. ChildOf s p) (λ s. refl) under)
  through-few (RemoveClass c) = omega arith
  through-few (AddInstVar c x) = omega arith
  through-few (RenameInstVar c x y) = omega arith
  through-few (RemoveInstVar c x) = omega arith
  through-few (PushUpInstVar c x) = omega (arith, through-given (superclass_name a.words.tests.same i c) (λ p. VariableFree p x ∷ []) (λ p. omega arith))
  through-few (PushDownInstVar c x) = omega arith
  through-few (AddClassVar c x) = omega arith
  through-few (RenameClassVar c x y) = omega arith
  through-few (RemoveClassVar c x) = omega arith
  through-few (PushUpClassVar c x) = omega (arith, through-given (superclass_name a.words.tests.same i c) (λ p. VariableFree p x ∷ []) (λ p. omega arith))
  through-few (PushDownClassVar c x d) = omega arith
  through-few (AddClassSideVar c x) = omega arith
  through-few (RenameClassSideVar c x y) = omega arith
  through-few (RemoveClassSideVar c x) = omega arith
  through-few (RenameSelector s t) = omega arith
  through-few (AddMethod c meta protocol text tree) = omega arith
  through-few (RemoveMethod c meta s) = omega arith
  through-few (PushUpMethod c meta s) =
      omega (arith, through-given (superclass_name a.words.tests.same i c) (λ p. NotImplements p meta s ∷ NoSuper c meta s ∷ MeansSame c meta s p ∷ Unreached s ∷ []) (λ p. omega arith))
  through-few (PushDownMethod c meta s) =
      omega (arith, through-append (map (MeansSame c meta s) (receivers a.words.tests.same i c meta s)) (Unreached s ∷ []), through-none (MeansSame c meta s) (λ d. refl) (receivers a.words.tests.same i c meta s))
  through-few (AddParameter s t x passed) =
      let users = filter (λ (m : EntryOf N). not m.kernel && a.words.tests.same s m.tree.selector) i.methods in
      omega (arith, through-append (filter_map (λ (m : EntryOf N). option_map (λ c. NotIn c m.meta s x) m.class) users) (AtomLiteral ∷ Shallow ∷ []), through-unnamed s x users)
  through-few (RemoveParameter s k t) = omega arith
  through-few (AbstractInstVar c x setter given) = omega arith
  through-few (ExtractMethod c meta s from to t) =
      omega (arith, through-given (part_at a i c meta s from to) (λ (e : EntryOf N × Part). Arity t (length (free_temporaries a e.0.tree e.1)) ∷ SelectorFresh t ∷ Shallow ∷ []) (λ e. omega arith))
  through-few (InlineMethod c meta s from to) =
      omega (arith, through-given (send_at a i c meta s from to) (λ (e : EntryOf N × SendOf N). target_needs a i c meta s from to e.1) (λ e. through-target c meta s from to e.1))
  through-few (ExtractTemp c meta s from to x) = omega arith
  through-few (InlineTemp c meta s x) = omega arith
  through-few (RenameTemp c meta s x y) = omega arith

-- a number so often
abbrev extra : ℕ → ℕ → ℕ
extra zero m = 0
extra (suc k) m = m + extra k m

extra-few : (k m : ℕ) → k ≤ 2 → extra k m ≤ 2 * m
extra-few zero m few = omega arith
extra-few (suc zero) m few = omega arith
extra-few (suc (suc zero)) m few = omega arith
extra-few (suc (suc (suc k))) m few = absurd (omega (arith, few))

-- a sum of which each part is at most four, or so much
sum-more : (m l k s : ℕ) → s ≤ 4 * l + k → m + s ≤ 4 * (suc l) + (m + k)
sum-more m l k s h = omega (arith, h)

sum-four : (l k s : ℕ) → s ≤ 4 * l + k → 4 + s ≤ 4 * (suc l) + k
sum-four l k s h = omega (arith, h)

sum-all : (s l k n : ℕ) → s ≤ 4 * l + k → k ≤ 2 * (4 * n) → l ≤ n → s ≤ 12 * n
sum-all s l k n h g le = omega (arith, h, g, le)

part-le : (j l : ℕ) → l ≤ j + l + 2
part-le j l = omega arith

module _ {N : Type 0} (n : ℕ) where
  abbrev bound : ConditionOf N → ℕ
  bound c = if looks_through c then 4 * n else 4

  sums : (cs : List (ConditionOf N)) → sum_by bound cs ≤ 4 * length cs + extra (through cs) (4 * n)
  sums [] = omega arith
  sums (c ∷ cs) =
      subst (λ (z : ℕ). z ≤ 4 * length (c ∷ cs) + extra (through (c ∷ cs)) (4 * n)) (sym (sum_by-cons bound c cs)) (by (looks_through c) (sums cs))
    where
      by : (b : Bool) → sum_by bound cs ≤ 4 * length cs + extra (through cs) (4 * n)
          → (if b then 4 * n else 4) + sum_by bound cs ≤ 4 * length (c ∷ cs) + extra (length (cond b (c ∷ filter looks_through cs) (filter looks_through cs))) (4 * n)
      by true rest = sum-more (4 * n) (length cs) (extra (through cs) (4 * n)) (sum_by bound cs) rest
      by false rest = sum-four (length cs) (extra (through cs) (4 * n)) (sum_by bound cs) rest

-- so their bounds together are a part of what is asked for
pub through-together : {N : Type 0} (a : AskedOf N) (i : ImageOf N) (command : CommandOf N) → sum_by (condition_bound a i command) (needs a i command) ≤ 12 * asked_for a i command
through-together a i command =
    sum-all (sum_by (condition_bound a i command) (needs a i command)) (length (needs a i command)) (extra (through (needs a i command)) (4 * asked_for a i command)) (asked_for a i command)
    (sums (asked_for a i command) (needs a i command))
    (extra-few (through (needs a i command)) (4 * asked_for a i command) (through-few a i command))
    (part-le (listed a i command) (length (needs a i command)))
