-- Names in environments that are laid out as scopes declare them.
use Rattle.std.proofs.Common.{◌≡◌, ℕ, suc, ◌+◌, List, [], ◌∷◌, ◌++◌, length, Option, Some, None, refl, sym, ap, ◌∙◌, subst, arith, append_assoc}
use Rattle.std.specs.Prelude.{Bool, true, false, ◌||◌, cond, if◌then◌else◌, map, find, option_map, option_and_then, unwrap_or}
use Rattle.std.specs.List.{AllByRecursion}
use Rattle.std.specs.Option.{option_or}
use Rattle.std.proofs.lemmas.Bool.{false≢true}
use Rattle.std.proofs.lemmas.List.{append-nil}
use Rattle.rb_base.specs.Names.{text_eq}
use Rattle.tree_model.specs.Tree.{TreeOf}
use Rattle.tree_model.specs.Path.{child, nth, part_at, part_among, statement_trees}
use Rattle.scope_model.specs.SpecialNames.{is_pseudo_variable}
use Rattle.scope_model.specs.Scope.{ScopeOf, PlacedScope, method_scope, doit_scope, own_scope, entered, scopes_round, is_among, local_by, local_in_scope}
use Rattle.scope_model.specs.declared.local.Local.{Local}
use Rattle.scope_model.specs.declared.local.Local.TheVariants.{Argument, Temporary, NotLocal}
use Rattle.image_model.specs.Image.{ClassOf, EntryOf, DoItOf, ImageOf}
use Rattle.image_model.specs.Words.{text_words}
use Rattle.image_model.specs.Means.{VariableKind, of_class, pseudo, variable, a_class, transcript, undeclared, means_outside, means_by, means, means_in_doit}
use Rattle.run_model.specs.Values.{Name, Value, nil_value}
use Rattle.run_model.specs.Store.{Binding, holds, in_cell, Slot, Frame}
use Rattle.run_model.specs.Operations.{Operations}
use Rattle.run_model.specs.Reading.{binding_of, meaning_of, reads_pseudo, reads_meaning, reads_binding, reads}
use Rattle.run_model.specs.Eval.{held, in_cells, inside}
use Rattle.run_model.specs.Runs.{doit_class}
use Rattle.run_model.specs.Layouts.{HoldsValue, IsInCell, IsLaidOut, ReadsAs, IsBoundAs}
use Rattle.run_model.proofs.Finite.{by_cases}

-- a thing that is there
some-same : (t u : TreeOf Name) → Some t ≡ Some u → t ≡ u
some-same t u e = ap (λ o. unwrap_or o t) e

-- what slots have for a name
abbrev bound : List Slot → Name → Option Binding
bound slots n = option_map (λ (e : Slot). e.binding) (find (λ (e : Slot). text_eq n e.name) slots)

-- the names of slots
abbrev names_of : List Slot → List Name
names_of slots = map (λ (e : Slot). e.name) slots

-- slots that do not have a name leave it to those behind them
bound-behind : (xs ys : List Slot) (n : Name) → is_among text_eq (names_of xs) n ≡ false → bound (xs ++ ys) n ≡ bound ys n
bound-behind [] ys n e = refl
bound-behind (x ∷ xs) ys n e =
    by_cases (text_eq n x.name)
    (λ t. absurd (false≢true (sym e ∙ ap (λ b. b || is_among text_eq (names_of xs) n) t)))
    (λ t. ap (λ b. option_map (λ (d : Slot). d.binding) (cond b (Some x) (find (λ (d : Slot). text_eq n d.name) (xs ++ ys)))) t
    ∙ bound-behind xs ys n (sym (ap (λ b. b || is_among text_eq (names_of xs) n) t) ∙ e))

-- slots with values that have a name give one of them
bound-value : (xs ys : List Slot) (n : Name) → AllByRecursion HoldsValue xs → is_among text_eq (names_of xs) n ≡ true → (v : Value) × (bound (xs ++ ys) n ≡ Some (holds v))
bound-value [] ys n all e = absurd (false≢true e)
bound-value (x ∷ xs) ys n all e =
    by_cases (text_eq n x.name)
    (λ t. (all.0.0, ap (λ b. option_map (λ (d : Slot). d.binding) (cond b (Some x) (find (λ (d : Slot). text_eq n d.name) (xs ++ ys)))) t ∙ ap Some all.0.1))
    (λ t. let h = bound-value xs ys n all.1 (sym (ap (λ b. b || is_among text_eq (names_of xs) n) t) ∙ e) in
    (h.0, ap (λ b. option_map (λ (d : Slot). d.binding) (cond b (Some x) (find (λ (d : Slot). text_eq n d.name) (xs ++ ys)))) t ∙ h.1))

-- slots with cells that have a name give one of them
bound-cell : (xs ys : List Slot) (n : Name) → AllByRecursion IsInCell xs → is_among text_eq (names_of xs) n ≡ true → (k : ℕ) × (bound (xs ++ ys) n ≡ Some (in_cell k))
bound-cell [] ys n all e = absurd (false≢true e)
bound-cell (x ∷ xs) ys n all e =
    by_cases (text_eq n x.name)
    (λ t. (all.0.0, ap (λ b. option_map (λ (d : Slot). d.binding) (cond b (Some x) (find (λ (d : Slot). text_eq n d.name) (xs ++ ys)))) t ∙ ap Some all.0.1))
    (λ t. let h = bound-cell xs ys n all.1 (sym (ap (λ b. b || is_among text_eq (names_of xs) n) t) ∙ e) in
    (h.0, ap (λ b. option_map (λ (d : Slot). d.binding) (cond b (Some x) (find (λ (d : Slot). text_eq n d.name) (xs ++ ys)))) t ∙ h.1))

-- what the scopes say of a name, by whether the innermost declares it
local-if : (d : ℕ) (rest : Local) (b c : Bool) (o : Option Binding) → (b ≡ true → IsBoundAs (Argument d) o) → (b ≡ false → c ≡ true → IsBoundAs (Temporary d) o) → (b ≡ false → c ≡ false → IsBoundAs rest o) → IsBoundAs (if b then Argument d else if c then Temporary d else rest) o
local-if d rest true c o p q r = p refl
local-if d rest false true o p q r = q refl refl
local-if d rest false false o p q r = r refl refl

-- a name has in the environment what the scopes say of it
pub bound-local : (ps : List (PlacedScope Name)) (slots : List Slot) (n : Name) → IsLaidOut ps slots → IsBoundAs (local_by text_eq ps n) (bound slots n)
bound-local [] slots n l = ap (λ s. bound s n) l
bound-local (p ∷ ps) slots n l =
    local-if p.0 (local_by text_eq ps n) (is_among text_eq p.1.arguments n) (is_among text_eq p.1.temporaries n) (bound slots n)
    (λ e. let h = bound-value l.arguments (l.temporaries ++ l.rest) n l.argument_values (ap (λ ns. is_among text_eq ns n) l.argument_names ∙ e) in (h.0, ap (λ s. bound s n) l.all ∙ h.1))
    (λ e t. let h = bound-cell l.temporaries l.rest n l.temporary_cells (ap (λ ns. is_among text_eq ns n) l.temporary_names ∙ t) in
    (h.0, ap (λ s. bound s n) l.all ∙ bound-behind l.arguments (l.temporaries ++ l.rest) n (ap (λ ns. is_among text_eq ns n) l.argument_names ∙ e) ∙ h.1))
    (λ e t. subst (IsBoundAs (local_by text_eq ps n))
    (sym (ap (λ s. bound s n) l.all ∙ bound-behind l.arguments (l.temporaries ++ l.rest) n (ap (λ ns. is_among text_eq ns n) l.argument_names ∙ e)
    ∙ bound-behind l.temporaries l.rest n (ap (λ ns. is_among text_eq ns n) l.temporary_names ∙ t)))
    (bound-local ps l.rest n l.outer))

-- what a name means outside the scopes, by what is found
reads-found : (w : Operations) (f : Frame) (n : Name) (kind : VariableKind) (o p q : Option (ClassOf Name)) (b : Bool) →
    let g = unwrap_or (option_or (option_map (λ (c : ClassOf Name). variable kind c.name) o) (option_or (option_map (λ (c : ClassOf Name). variable of_class c.name) p) (option_or (option_map (λ (c : ClassOf Name). a_class c.name) q) (if b then Some transcript else None)))) undeclared in
    ReadsAs w f n g (reads_meaning w f n g)
reads-found w f n kind (Some c) p q b = refl
reads-found w f n kind None (Some c) q b = refl
reads-found w f n kind None None (Some c) b = refl
reads-found w f n kind None None None true = refl
reads-found w f n kind None None None false = refl

-- reading outside the scopes
reads-outside : (w : Operations) (i : ImageOf Name) (f : Frame) (n : Name) → ReadsAs w f n (meaning_of i f n) (reads_meaning w f n (meaning_of i f n))
reads-outside w i f n = reads-found w f n _ _ _ _ _

-- reading by what the environment has
reads-local : (w : Operations) (i : ImageOf Name) (f : Frame) (n : Name) (l : Local) (o : Option Binding) → IsBoundAs l o → ReadsAs w f n (means_by l (meaning_of i f n)) (reads_binding w i f n o)
reads-local w i f n (Argument d) o h = (h.0, ap (reads_binding w i f n) h.1)
reads-local w i f n (Temporary d) o h = (h.0, ap (reads_binding w i f n) h.1)
reads-local w i f n NotLocal o h = subst (λ x. ReadsAs w f n (meaning_of i f n) (reads_binding w i f n x)) (sym h) (reads-outside w i f n)

-- reading a name that may be a pseudo-variable
reads-pseudo : (w : Operations) (i : ImageOf Name) (f : Frame) (n : Name) (b : Bool) (l : Local) (o : Option Binding) → IsBoundAs l o →
    ReadsAs w f n (if b then pseudo else means_by (if b then NotLocal else l) (meaning_of i f n)) (if b then reads_pseudo w f n else reads_binding w i f n o)
reads-pseudo w i f n true l o h = refl
reads-pseudo w i f n false l o h = reads-local w i f n l o h

-- reading in a scope whose method has this class and side
reads-in_scope : (w : Operations) (i : ImageOf Name) (scope : ScopeOf Name) (path : List ℕ) (f : Frame) (n : Name) (c : Option Name) (meta : Bool) → f.home.class ≡ c → f.home.meta ≡ meta → IsLaidOut (scopes_round scope path) f.slots →
    ReadsAs w f n (if is_pseudo_variable n then pseudo else means_by (local_in_scope text_eq is_pseudo_variable scope path n) (means_outside text_words i c meta n)) (reads w i f n)
reads-in_scope w i scope path f n c meta e h l =
    subst (λ x. ReadsAs w f n (if is_pseudo_variable n then pseudo else means_by (local_in_scope text_eq is_pseudo_variable scope path n) (means_outside text_words i x meta n)) (reads w i f n)) e
    (subst (λ x. ReadsAs w f n (if is_pseudo_variable n then pseudo else means_by (local_in_scope text_eq is_pseudo_variable scope path n) (means_outside text_words i f.home.class x n)) (reads w i f n)) h
    (reads-pseudo w i f n (is_pseudo_variable n) (local_by text_eq (scopes_round scope path) n) (binding_of f n) (bound-local (scopes_round scope path) f.slots n l)))

-- reading in a method
pub reads-method : (w : Operations) (i : ImageOf Name) (m : EntryOf Name) (path : List ℕ) (f : Frame) (n : Name) → f.home.class ≡ m.class → f.home.meta ≡ m.meta → IsLaidOut (scopes_round (method_scope m.tree) path) f.slots → ReadsAs w f n (means text_words i m path n) (reads w i f n)
reads-method w i m path f n e h l = reads-in_scope w i (method_scope m.tree) path f n m.class m.meta e h l

-- reading in a do-it
pub reads-doit : (w : Operations) (i : ImageOf Name) (d : DoItOf Name) (path : List ℕ) (f : Frame) (n : Name) → f.home.class ≡ doit_class i → f.home.meta ≡ false → IsLaidOut (scopes_round (doit_scope d.body) path) f.slots → ReadsAs w f n (means_in_doit text_words i d path n) (reads w i f n)
reads-doit w i d path f n e h l = reads-in_scope w i (doit_scope d.body) path f n (doit_class i) false e h l

-- the names of arguments with their values
held-names : (ps : List Name) (vs : List Value) → names_of (held ps vs) ≡ ps
held-names [] vs = refl
held-names (p ∷ ps) [] = ap (λ ns. p ∷ ns) (held-names ps [])
held-names (p ∷ ps) (v ∷ vs) = ap (λ ns. p ∷ ns) (held-names ps vs)

-- arguments have values
held-values : (ps : List Name) (vs : List Value) → AllByRecursion HoldsValue (held ps vs)
held-values [] vs = tt
held-values (p ∷ ps) [] = ((nil_value, refl), held-values ps [])
held-values (p ∷ ps) (v ∷ vs) = ((v, refl), held-values ps vs)

-- the names of temporaries with their cells
cells-names : (ts : List Name) (k : ℕ) → names_of (in_cells ts k) ≡ ts
cells-names [] k = refl
cells-names (t ∷ ts) k = ap (λ ns. t ∷ ns) (cells-names ts (suc k))

-- temporaries have cells
cells-cells : (ts : List Name) (k : ℕ) → AllByRecursion IsInCell (in_cells ts k)
cells-cells [] k = tt
cells-cells (t ∷ ts) k = ((k, refl), cells-cells ts (suc k))

-- a scope that is entered is laid out inside the others
pub inside-laid_out : (ps : List (PlacedScope Name)) (f : Frame) (d : ℕ) (scope : ScopeOf Name) (vs : List Value) (k : ℕ) → IsLaidOut ps f.slots →
    IsLaidOut ((d, scope) ∷ ps) (inside f (held scope.arguments vs ++ in_cells scope.temporaries k)).slots
inside-laid_out ps f d scope vs k l = record {
  arguments = held scope.arguments vs;
  temporaries = in_cells scope.temporaries k;
  rest = f.slots;
  all = append_assoc (held scope.arguments vs) (in_cells scope.temporaries k) f.slots;
  argument_names = held-names scope.arguments vs;
  temporary_names = cells-names scope.temporaries k;
  argument_values = held-values scope.arguments vs;
  temporary_cells = cells-cells scope.temporaries k;
  outer = l;
}

-- nothing is entered at the end of a path
entered-end : (d : ℕ) (o : Option (TreeOf Name)) → unwrap_or (option_map (λ c. entered d c []) o) [] ≡ []
entered-end d (Some c) = refl
entered-end d None = refl

-- one step further on from a node
entered-from : (d : ℕ) (t u : TreeOf Name) (j k : ℕ) (js : List ℕ) (o : Option (TreeOf Name)) →
    ((c : TreeOf Name) → part_at c js ≡ Some u → entered (d + 1) c (js ++ k ∷ []) ≡ own_scope (d + 1 + length js) u ++ entered (d + 1) c js) →
    option_and_then (λ c. part_at c js) o ≡ Some u →
    unwrap_or (option_map (λ c. entered (d + 1) c (js ++ k ∷ [])) o) [] ++ own_scope d t ≡ own_scope (d + 1 + length js) u ++ (unwrap_or (option_map (λ c. entered (d + 1) c js) o) [] ++ own_scope d t)
entered-from d t u j k js (Some c) ih e = ap (λ l. l ++ own_scope d t) (ih c e) ∙ append_assoc (own_scope (d + 1 + length js) u) (entered (d + 1) c js) (own_scope d t)
entered-from d t u j k js None ih e = cc

-- a step on from a block enters it, and a step on from any other node enters nothing
entered-step : (ks : List ℕ) (d : ℕ) (t u : TreeOf Name) (k : ℕ) → part_at t ks ≡ Some u → entered d t (ks ++ k ∷ []) ≡ own_scope (d + length ks) u ++ entered d t ks
entered-step [] d t u k e =
    let h : d ≡ d + 0 = omega arith in
    ap (λ l. l ++ own_scope d t) (entered-end (d + 1) (child t k)) ∙ ap (λ x. own_scope x t) h ∙ ap (own_scope (d + 0)) (some-same t u e) ∙ sym (append-nil (own_scope (d + 0) u))
entered-step (j ∷ js) d t u k e =
    let h : d + 1 + length js ≡ d + length (j ∷ js) = omega arith in
    entered-from d t u j k js (child t j) (λ c q. entered-step js (d + 1) c u k q) e ∙ ap (λ x. own_scope x u ++ entered d t (j ∷ js)) h

-- one step into the statements of a scope
round-first : (scope : ScopeOf Name) (k : ℕ) → scopes_round scope (k ∷ []) ≡ scopes_round scope []
round-first scope k = ap (λ l. l ++ (0, scope) ∷ []) (entered-end 1 (nth (statement_trees scope.statements) k))

-- the scopes round a part of a node, from an option
round-from : (scope : ScopeOf Name) (u : TreeOf Name) (k : ℕ) (js : List ℕ) (o : Option (TreeOf Name)) → option_and_then (λ c. part_at c js) o ≡ Some u →
    unwrap_or (option_map (λ c. entered 1 c (js ++ k ∷ [])) o) [] ++ (0, scope) ∷ [] ≡ own_scope (1 + length js) u ++ (unwrap_or (option_map (λ c. entered 1 c js) o) [] ++ (0, scope) ∷ [])
round-from scope u k js (Some c) e = ap (λ l. l ++ (0, scope) ∷ []) (entered-step js 1 c u k e) ∙ append_assoc (own_scope (1 + length js) u) (entered 1 c js) ((0, scope) ∷ [])
round-from scope u k js None e = cc

-- the scopes round a part of a node are those round the node, and the node inside them where it is a block
pub round-step : (scope : ScopeOf Name) (path : List ℕ) (u : TreeOf Name) (k : ℕ) → part_among (statement_trees scope.statements) path ≡ Some u → scopes_round scope (path ++ k ∷ []) ≡ own_scope (length path) u ++ scopes_round scope path
round-step scope [] u k e = cc
round-step scope (j ∷ js) u k e =
    let h : 1 + length js ≡ length (j ∷ js) = omega arith in
    round-from scope u k js (nth (statement_trees scope.statements) j) e ∙ ap (λ x. own_scope x u ++ scopes_round scope (j ∷ js)) h

-- the scopes round a statement are the outermost one
pub round-statement : (scope : ScopeOf Name) (k : ℕ) → scopes_round scope (k ∷ []) ≡ (0, scope) ∷ []
round-statement scope k = round-first scope k
