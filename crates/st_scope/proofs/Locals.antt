-- What a name stands for, from the outside in.
use Rattle.std.proofs.Common.{◌≡◌, refl, ap, sym, ◌∙◌, ℕ, ◌+◌, Bool, false, List, [], ◌∷◌, ◌++◌, Option, Some, option_map, unwrap_or, cond}
use Rattle.tree_model.specs.Tree.{TreeOf}
use Rattle.tree_model.specs.Path.{child, nth, statement_trees}
use Rattle.std.specs.Prelude.{nat_eq}
use Rattle.scope_model.specs.declared.local.Local.{Local}
use Rattle.scope_model.specs.declared.local.Local.TheVariants.{NotLocal}
use Rattle.scope_model.specs.Scope.{ScopeOf, PlacedScope, own_scope, entered, local_by, local_in_scope}
use Rattle.st_tree.specs.View.{statements_of}
use Rattle.st_tree.specs.declared.tree.Statement.{Statement}
use Rattle.st_scope.specs.LocalFrom.{declared_or, local_or}

-- scopes inside of others
pub local_or-append : (ps qs : List (PlacedScope ℕ)) (n : ℕ) (outside : Local) → local_or (ps ++ qs) n outside ≡ local_or ps n (local_or qs n outside)
local_or-append [] qs n outside = refl
local_or-append (p ∷ ps) qs n outside = ap (declared_or p.1.arguments p.1.temporaries p.0 n) (local_or-append ps qs n outside)

-- one step further down
pub local_or-entered : (depth : ℕ) (t : TreeOf ℕ) (steps : List ℕ) (step : ℕ) (rest : List ℕ) (found : Option (TreeOf ℕ)) (n : ℕ) (outside : Local)
    → steps ≡ step ∷ rest → found ≡ child t step
    → local_or (entered depth t steps) n outside
    ≡ local_or (unwrap_or (option_map (λ c. entered (depth + 1) c rest) found) []) n (local_or (own_scope depth t) n outside)
local_or-entered depth t steps step rest found n outside e f =
    ap (λ (path : List ℕ). local_or (entered depth t path) n outside) e
    ∙ local_or-append (unwrap_or (option_map (λ c. entered (depth + 1) c rest) (child t step)) []) (own_scope depth t) n outside
    ∙ ap (λ (o : Option (TreeOf ℕ)). local_or (unwrap_or (option_map (λ c. entered (depth + 1) c rest) o) []) n (local_or (own_scope depth t) n outside)) (sym f)

-- no scope is left
pub local_by-local_or : (ps : List (PlacedScope ℕ)) (n : ℕ) → local_by nat_eq ps n ≡ local_or ps n NotLocal
local_by-local_or [] n = refl
local_by-local_or (p ∷ ps) n = ap (declared_or p.1.arguments p.1.temporaries p.0 n) (local_by-local_or ps n)

-- the scopes that a path enters from a body
pub local_in_scope-step : (is_pseudo : ℕ → Bool) (s : ScopeOf ℕ) (steps : List ℕ) (step : ℕ) (rest : List ℕ) (found : Option (TreeOf ℕ)) (n : ℕ) (outside : Local)
    → is_pseudo n ≡ false → steps ≡ step ∷ rest → found ≡ nth (statement_trees s.statements) step → outside ≡ declared_or s.arguments s.temporaries 0 n NotLocal
    → local_or (unwrap_or (option_map (λ c. entered 1 c rest) found) []) n outside ≡ local_in_scope nat_eq is_pseudo s steps n
local_in_scope-step is_pseudo s steps step rest found n outside p e f o =
    let go : Option (TreeOf ℕ) → List (PlacedScope ℕ) = λ t. unwrap_or (option_map (λ c. entered 1 c rest) t) [] in
    ap (local_or (go found) n) o
    ∙ ap (λ (t : Option (TreeOf ℕ)). local_or (go t) n (declared_or s.arguments s.temporaries 0 n NotLocal)) f
    ∙ sym (local_or-append (go (nth (statement_trees s.statements) step)) ((0, s) ∷ []) n NotLocal)
    ∙ sym (local_by-local_or (go (nth (statement_trees s.statements) step) ++ (0, s) ∷ []) n)
    ∙ ap (λ b. cond b NotLocal (local_by nat_eq (go (nth (statement_trees s.statements) step) ++ (0, s) ∷ []) n)) (sym p)
    ∙ ap (λ (path : List ℕ). local_in_scope nat_eq is_pseudo s path n) (sym e)

-- one step further down, as the code finds it
pub local_below_child : (depth : ℕ) (t : TreeOf ℕ) (steps : List ℕ) (step : ℕ) (rest : List ℕ) (c : TreeOf ℕ) (n : ℕ) (outside inside result : Local)
    → steps ≡ step ∷ rest → Some c ≡ child t step → inside ≡ local_or (own_scope depth t) n outside → result ≡ local_or (entered (depth + 1) c rest) n inside
    → result ≡ local_or (entered depth t steps) n outside
local_below_child depth t steps step rest c n outside inside result e f g h =
    h ∙ ap (local_or (entered (depth + 1) c rest) n) g ∙ sym (local_or-entered depth t steps step rest (Some c) n outside e f)

-- a step into a body, as the code finds it
pub local_in_body_step : (is_pseudo : ℕ → Bool) (arguments temporaries own : List ℕ) (statements these : List Statement) (steps : List ℕ) (step : ℕ) (rest : List ℕ)
    (found : Option (TreeOf ℕ)) (n : ℕ) (outside result : Local) (b : Bool)
    → b ≡ false → b ≡ is_pseudo n → steps ≡ step ∷ rest → these ≡ statements → found ≡ nth (statement_trees (statements_of these)) step
    → own ≡ temporaries → outside ≡ declared_or arguments own 0 n NotLocal
    → result ≡ local_or (unwrap_or (option_map (λ c. entered 1 c rest) found) []) n outside
    → result ≡ local_in_scope nat_eq is_pseudo (record { arguments = arguments; temporaries = temporaries; statements = statements_of statements }) steps n
local_in_body_step is_pseudo arguments temporaries own statements these steps step rest found n outside result b p q e s f o g r =
    let nodes : found ≡ nth (statement_trees (statements_of statements)) step = f ∙ ap (λ (ss : List Statement). nth (statement_trees (statements_of ss)) step) s in
    let known : outside ≡ declared_or arguments temporaries 0 n NotLocal = g ∙ ap (λ (ts : List ℕ). declared_or arguments ts 0 n NotLocal) o in
    r ∙ local_in_scope-step is_pseudo (record { arguments = arguments; temporaries = temporaries; statements = statements_of statements }) steps step rest found n outside
    (sym q ∙ p) e nodes known
