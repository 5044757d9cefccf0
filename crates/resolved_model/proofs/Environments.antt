-- What an environment of names says, by the names alone and by what stands there.
use Rattle.std.proofs.Common.{◌≡◌, ℕ, suc, ◌+◌, List, [], ◌∷◌, ◌++◌, length, Option, Some, None, refl, sym, ap, ◌∙◌, arith, append_assoc}
use Rattle.std.specs.Prelude.{Bool, true, false, not, ◌||◌, cond, if◌then◌else◌, map, find, slice_get, option_map}
use Rattle.std.specs.List.{position_or_len}
use Rattle.std.proofs.lemmas.List.{map-append}
use Rattle.rb_base.specs.Names.{text_eq}
use Rattle.scope_model.specs.SpecialNames.{is_pseudo_variable}
use Rattle.scope_model.specs.Scope.{PlacedScope, is_among, local_by}
use Rattle.scope_model.specs.declared.local.Local.{Local}
use Rattle.scope_model.specs.declared.local.Local.TheVariants.{Argument, Temporary, NotLocal}
use Rattle.image_model.specs.Means.{MeaningOf, pseudo, means_by}
use Rattle.run_model.specs.Values.{Name, Value, nil_value}
use Rattle.run_model.specs.Store.{Binding, holds, in_cell, Slot}
use Rattle.run_model.specs.Eval.{held, in_cells}
use Rattle.run_model.proofs.Finite.{by_cases}
use Rattle.resolved_model.specs.ResolvedTrees.{of_word, to_fixed}
use Rattle.resolved_model.specs.Resolving.{declared_by, reference_of, target_of}
use Rattle.resolved_model.specs.ResolvedEval.{values_held, cells_from}
use Rattle.resolved_model.specs.Environments.{Declared, as_argument, as_temporary, opened, kind_in, place_in, reference_by, target_by, reference_in, target_in, declared_in}

-- the kind of a local
abbrev pub kind_of : Local → Option Bool
kind_of (Argument scope) = Some false
kind_of (Temporary scope) = Some true
kind_of NotLocal = None

-- declarations of one kind in front, by whether they have the name
kind-front : (make : Name → Declared) (b : Bool) → ((m : Name) → ((make m).name ≡ m) × ((make m).is_temporary ≡ b)) → (ns : List Name) (env : List Declared) (n : Name) →
    kind_in (map make ns ++ env) n ≡ (if is_among text_eq ns n then Some b else kind_in env n)
kind-front make b h [] env n = refl
kind-front make b h (m ∷ ns) env n =
    ap (λ x. option_map (λ (d : Declared). d.is_temporary) (cond (text_eq n x) (Some (make m)) (find (λ (d : Declared). text_eq n d.name) (map make ns ++ env)))) (h m).0 ∙ by (text_eq n m) (kind-front make b h ns env n)
  where
    by : (c : Bool) → kind_in (map make ns ++ env) n ≡ (if is_among text_eq ns n then Some b else kind_in env n) →
        option_map (λ (d : Declared). d.is_temporary) (cond c (Some (make m)) (find (λ (d : Declared). text_eq n d.name) (map make ns ++ env))) ≡ (if c || is_among text_eq ns n then Some b else kind_in env n)
    by true ih = ap Some (h m).1
    by false ih = ih

-- what scopes say of a name is what their declarations say
pub kind-scopes : (ps : List (PlacedScope Name)) (n : Name) → kind_in (declared_in ps) n ≡ kind_of (local_by text_eq ps n)
kind-scopes [] n = refl
kind-scopes (p ∷ ps) n =
    kind-front as_argument false (λ m. (refl, refl)) p.1.arguments (map as_temporary p.1.temporaries ++ declared_in ps) n
    ∙ ap (λ o. if is_among text_eq p.1.arguments n then Some false else o) (kind-front as_temporary true (λ m. (refl, refl)) p.1.temporaries (declared_in ps) n)
    ∙ by (is_among text_eq p.1.arguments n) (is_among text_eq p.1.temporaries n) (kind-scopes ps n)
  where
    by : (b c : Bool) → kind_in (declared_in ps) n ≡ kind_of (local_by text_eq ps n) →
        (if b then Some false else if c then Some true else kind_in (declared_in ps) n) ≡ kind_of (if b then Argument p.0 else if c then Temporary p.0 else local_by text_eq ps n)
    by true c ih = refl
    by false true ih = refl
    by false false ih = ih

-- names that are made declarations and read again
names-back : (make : Name → Declared) → ((m : Name) → (make m).name ≡ m) → (ns : List Name) → map (λ (d : Declared). d.name) (map make ns) ≡ ns
names-back make h [] = refl
names-back make h (m ∷ ns) = λ i. h m i ∷ names-back make h ns i

-- the names of scopes
names-scopes : (ps : List (PlacedScope Name)) → map (λ (d : Declared). d.name) (declared_in ps) ≡ declared_by ps
names-scopes [] = refl
names-scopes (p ∷ ps) =
    map-append (λ (d : Declared). d.name) (map as_argument p.1.arguments) (map as_temporary p.1.temporaries ++ declared_in ps)
    ∙ ap (λ l. map (λ (d : Declared). d.name) (map as_argument p.1.arguments) ++ l) (map-append (λ (d : Declared). d.name) (map as_temporary p.1.temporaries) (declared_in ps))
    ∙ (λ i. names-back as_argument (λ m. refl) p.1.arguments i ++ (names-back as_temporary (λ m. refl) p.1.temporaries i ++ names-scopes ps i))
    ∙ sym (append_assoc p.1.arguments p.1.temporaries (declared_by ps))

-- what is read, by what a local is
read-local : (l : Local) (k : ℕ) (g : MeaningOf Name) (n : Name) → reference_of (means_by l g) k n ≡ reference_by (kind_of l) k g n
read-local (Argument scope) k g n = refl
read-local (Temporary scope) k g n = refl
read-local NotLocal k g n = refl

-- what is assigned, by what a local is
assigned-local : (l : Local) (k : ℕ) (g : MeaningOf Name) (n : Name) → target_of (means_by l g) k n ≡ target_by (kind_of l) k g n
assigned-local (Argument scope) k g n = refl
assigned-local (Temporary scope) k g n = refl
assigned-local NotLocal k g n = refl

-- what is read under a name inside scopes is what is read in the environment of what they declare
pub reference-scopes : (ps : List (PlacedScope Name)) (g : MeaningOf Name) (n : Name) →
    reference_of (if is_pseudo_variable n then pseudo else means_by (if is_pseudo_variable n then NotLocal else local_by text_eq ps n) g) (position_or_len (text_eq n) (declared_by ps)) n ≡ reference_in (declared_in ps) g n
reference-scopes ps g n = by (is_pseudo_variable n)
  where
    by : (b : Bool) → reference_of (if b then pseudo else means_by (if b then NotLocal else local_by text_eq ps n) g) (position_or_len (text_eq n) (declared_by ps)) n ≡ (if b then of_word n else reference_by (kind_in (declared_in ps) n) (place_in (declared_in ps) n) g n)
    by true = refl
    by false =
        read-local (local_by text_eq ps n) (position_or_len (text_eq n) (declared_by ps)) g n
        ∙ (λ i. reference_by (sym (kind-scopes ps n) i) (position_or_len (text_eq n) (sym (names-scopes ps) i)) g n)

-- the same of what is assigned
pub target-scopes : (ps : List (PlacedScope Name)) (g : MeaningOf Name) (n : Name) →
    target_of (if is_pseudo_variable n then pseudo else means_by (if is_pseudo_variable n then NotLocal else local_by text_eq ps n) g) (position_or_len (text_eq n) (declared_by ps)) n ≡ target_in (declared_in ps) g n
target-scopes ps g n = by (is_pseudo_variable n)
  where
    by : (b : Bool) → target_of (if b then pseudo else means_by (if b then NotLocal else local_by text_eq ps n) g) (position_or_len (text_eq n) (declared_by ps)) n ≡ (if b then to_fixed n else target_by (kind_in (declared_in ps) n) (place_in (declared_in ps) n) g n)
    by true = refl
    by false =
        assigned-local (local_by text_eq ps n) (position_or_len (text_eq n) (declared_by ps)) g n
        ∙ (λ i. target_by (sym (kind-scopes ps n) i) (position_or_len (text_eq n) (sym (names-scopes ps) i)) g n)

-- whether a binding is a temporary's
abbrev pub is_cell : Binding → Bool
is_cell (holds v) = false
is_cell (in_cell k) = true

-- what the slots of a frame declare
abbrev pub slots_declare : List Slot → List Declared
slots_declare slots = map (λ (e : Slot). record { name = e.name; is_temporary = is_cell e.binding }) slots

-- what the slots of a frame stand for
abbrev pub slots_stand : List Slot → List Binding
slots_stand slots = map (λ (e : Slot). e.binding) slots

-- what an environment stands for by a name
abbrev pub bound : List Slot → Name → Option Binding
bound slots n = option_map (λ (e : Slot). e.binding) (find (λ (e : Slot). text_eq n e.name) slots)

-- a name is in no slot and not declared; or the first slot that has it is declared at the place where its binding stands
pub by_slots : {P : Type 0} (slots : List Slot) (n : Name) → (bound slots n ≡ None → kind_in (slots_declare slots) n ≡ None → P) →
    ((b : Binding) → bound slots n ≡ Some b → kind_in (slots_declare slots) n ≡ Some (is_cell b) → slice_get (slots_stand slots) (place_in (slots_declare slots) n) ≡ Some b → P) → P
by_slots [] n p q = p refl refl
by_slots (x ∷ xs) n p q =
    by_cases (text_eq n x.name)
    (λ t. q x.binding
    (ap (λ c. option_map (λ (e : Slot). e.binding) (cond c (Some x) (find (λ (e : Slot). text_eq n e.name) xs))) t)
    (ap (λ c. option_map (λ (d : Declared). d.is_temporary) (cond c (Some (record { name = x.name; is_temporary = is_cell x.binding })) (find (λ (d : Declared). text_eq n d.name) (slots_declare xs)))) t)
    (ap (λ c. slice_get (slots_stand (x ∷ xs)) (cond (not c) (1 + place_in (slots_declare xs) n) 0)) t))
    (λ t.
    let next : 1 + place_in (slots_declare xs) n ≡ suc (place_in (slots_declare xs) n) = omega arith in
    let first = ap (λ c. option_map (λ (e : Slot). e.binding) (cond c (Some x) (find (λ (e : Slot). text_eq n e.name) xs))) t in
    let second = ap (λ c. option_map (λ (d : Declared). d.is_temporary) (cond c (Some (record { name = x.name; is_temporary = is_cell x.binding })) (find (λ (d : Declared). text_eq n d.name) (slots_declare xs)))) t in
    let third = ap (λ c. slice_get (slots_stand (x ∷ xs)) (cond (not c) (1 + place_in (slots_declare xs) n) 0)) t ∙ ap (slice_get (slots_stand (x ∷ xs))) next in
    by_slots xs n (λ a b. p (first ∙ a) (second ∙ b)) (λ b u v w. q b (first ∙ u) (second ∙ v) (third ∙ w)))

-- arguments with their values are declared as arguments
declare-held : (ps : List Name) (vs : List Value) → slots_declare (held ps vs) ≡ map as_argument ps
declare-held [] vs = refl
declare-held (p ∷ ps) [] = ap (λ l. as_argument p ∷ l) (declare-held ps [])
declare-held (p ∷ ps) (v ∷ vs) = ap (λ l. as_argument p ∷ l) (declare-held ps vs)

-- temporaries with their cells are declared as temporaries
declare-cells : (ts : List Name) (k : ℕ) → slots_declare (in_cells ts k) ≡ map as_temporary ts
declare-cells [] k = refl
declare-cells (t ∷ ts) k = ap (λ l. as_temporary t ∷ l) (declare-cells ts (suc k))

-- the values of arguments
stand-held : (ps : List Name) (vs : List Value) → slots_stand (held ps vs) ≡ values_held (length ps) vs
stand-held [] vs = refl
stand-held (p ∷ ps) [] = ap (λ l. holds nil_value ∷ l) (stand-held ps [])
stand-held (p ∷ ps) (v ∷ vs) = ap (λ l. holds v ∷ l) (stand-held ps vs)

-- the cells of temporaries
stand-cells : (ts : List Name) (k : ℕ) → slots_stand (in_cells ts k) ≡ cells_from (length ts) k
stand-cells [] k = refl
stand-cells (t ∷ ts) k = ap (λ l. in_cell k ∷ l) (stand-cells ts (suc k))

-- what is declared once a scope is entered
pub declare-inside : (ps ts : List Name) (vs : List Value) (k : ℕ) (slots : List Slot) → slots_declare ((held ps vs ++ in_cells ts k) ++ slots) ≡ opened ps ts (slots_declare slots)
declare-inside ps ts vs k slots =
    ap slots_declare (append_assoc (held ps vs) (in_cells ts k) slots)
    ∙ map-append (λ (e : Slot). record { name = e.name; is_temporary = is_cell e.binding }) (held ps vs) (in_cells ts k ++ slots)
    ∙ ap (λ l. slots_declare (held ps vs) ++ l) (map-append (λ (e : Slot). record { name = e.name; is_temporary = is_cell e.binding }) (in_cells ts k) slots)
    ∙ (λ i. declare-held ps vs i ++ (declare-cells ts k i ++ slots_declare slots))

-- what stands in the slots once a scope is entered
pub stand-inside : (ps ts : List Name) (vs : List Value) (k : ℕ) (slots : List Slot) → slots_stand ((held ps vs ++ in_cells ts k) ++ slots) ≡ (values_held (length ps) vs ++ cells_from (length ts) k) ++ slots_stand slots
stand-inside ps ts vs k slots =
    map-append (λ (e : Slot). e.binding) (held ps vs ++ in_cells ts k) slots
    ∙ ap (λ l. l ++ slots_stand slots) (map-append (λ (e : Slot). e.binding) (held ps vs) (in_cells ts k) ∙ (λ i. stand-held ps vs i ++ stand-cells ts k i))
