-- The scopes round a place behind another place.
use Rattle.std.proofs.Common.{◌≡◌, ℕ, ◌+◌, ◌<◌, ◌≤◌, Bool, true, false, List, [], ◌∷◌, ◌++◌, length, Option, Some, None, option_and_then, option_map, refl, sym, ap, ◌∙◌, append_assoc, arith}
use Rattle.std.specs.Prelude.{if◌then◌else◌, unwrap_or, nat_lt}
use Rattle.std.specs.List.{AllByRecursion}
use Rattle.std.proofs.lemmas.Bool.{lt-ltb}
use Rattle.std.proofs.lemmas.List.{append-nil}
use Rattle.rb_base.specs.Names.{text_eq}
use Rattle.tree_model.specs.Tree.{TreeOf, var, literal, send, cascade, assign, block, brace, return, SequenceOf, MethodOf}
use Rattle.tree_model.specs.Path.{nth, statement_trees, child, part_at, part_in}
use Rattle.scope_model.specs.declared.local.Local.{Local}
use Rattle.scope_model.specs.declared.local.Local.TheVariants.{Argument, Temporary, NotLocal}
use Rattle.scope_model.specs.Scope.{PlacedScope, method_scope, own_scope, entered, scopes_round, is_among, local_by}
use Rattle.grammar_model.specs.Checks.{Known}
use Rattle.file_model.specs.Filing.{Text}
use Rattle.command_model.specs.Places.{is_local}
use Rattle.code_effect_laws.proofs.Methods.{IsSequenceAt, IsBody, IsInBlock}

-- what a path enters that leads on from a part
entered-on : (path : List ℕ) (depth : ℕ) (t c : TreeOf Text) (rest : List ℕ) → part_at t path ≡ Some c → entered depth t (path ++ rest) ≡ entered (depth + length path) c rest ++ entered depth t path
entered-on [] depth t c rest e =
    let same : t ≡ c = cc in
    let none : depth ≡ depth + 0 = omega arith in
    (λ i. entered (none i) (same i) rest) ∙ sym (append-nil (entered (depth + 0) c rest))
entered-on (k ∷ path) depth t c rest e = by (child t k) refl (λ d. entered-on path (depth + 1) d c rest)
  where
    by : (o : Option (TreeOf Text)) → child t k ≡ o → ((d : TreeOf Text) → part_at d path ≡ Some c → entered (depth + 1) d (path ++ rest) ≡ entered (depth + 1 + length path) c rest ++ entered (depth + 1) d path)
        → entered depth t (k ∷ (path ++ rest)) ≡ entered (depth + length (k ∷ path)) c rest ++ entered depth t (k ∷ path)
    by None q below = let nowhere = ap (option_and_then (λ x. part_at x path)) (sym q) ∙ e in absurd (cc)
    by (Some d) q below =
        let more : depth + 1 + length path ≡ depth + length (k ∷ path) = omega arith in
        ap (λ (o : Option (TreeOf Text)). unwrap_or (option_map (λ x. entered (depth + 1) x (path ++ rest)) o) [] ++ own_scope depth t) q
        ∙ ap (λ xs. xs ++ own_scope depth t) (below d (ap (option_and_then (λ x. part_at x path)) (sym q) ∙ e))
        ∙ append_assoc (entered (depth + 1 + length path) c rest) (entered (depth + 1) d path) (own_scope depth t)
        ∙ ap (λ n. entered n c rest ++ (entered (depth + 1) d path ++ own_scope depth t)) more
        ∙ sym (ap (λ (o : Option (TreeOf Text)). entered (depth + length (k ∷ path)) c rest ++ (unwrap_or (option_map (λ x. entered (depth + 1) x path) o) [] ++ own_scope depth t)) q)

module _ (m : MethodOf Text) where
  pub scopes-on : (k : ℕ) (path rest : List ℕ) (c : TreeOf Text) → part_in m.body (k ∷ path) ≡ Some c → scopes_round (method_scope m) (k ∷ (path ++ rest)) ≡ entered (length (k ∷ path)) c rest ++ scopes_round (method_scope m) (k ∷ path)
  scopes-on k path rest c e = by (nth (statement_trees m.body.statements) k) refl
    where
      by : (o : Option (TreeOf Text)) → nth (statement_trees m.body.statements) k ≡ o → scopes_round (method_scope m) (k ∷ (path ++ rest)) ≡ entered (length (k ∷ path)) c rest ++ scopes_round (method_scope m) (k ∷ path)
      by None q = let nowhere = ap (option_and_then (λ x. part_at x path)) (sym q) ∙ e in absurd (cc)
      by (Some d) q =
          let more : 1 + length path ≡ length (k ∷ path) = omega arith in
          ap (λ (o : Option (TreeOf Text)). unwrap_or (option_map (λ x. entered 1 x (path ++ rest)) o) [] ++ (0, method_scope m) ∷ []) q
          ∙ ap (λ xs. xs ++ (0, method_scope m) ∷ []) (entered-on path 1 d c rest (ap (option_and_then (λ x. part_at x path)) (sym q) ∙ e))
          ∙ append_assoc (entered (1 + length path) c rest) (entered 1 d path) ((0, method_scope m) ∷ [])
          ∙ ap (λ n. entered n c rest ++ (entered 1 d path ++ (0, method_scope m) ∷ [])) more
          ∙ sym (ap (λ (o : Option (TreeOf Text)). entered (length (k ∷ path)) c rest ++ (unwrap_or (option_map (λ x. entered 1 x path) o) [] ++ (0, method_scope m) ∷ [])) q)

-- round the statements of a sequence stand the same scopes
pub statement_scopes : (m : MethodOf Text) (path : List ℕ) (ks : List Known) (ps : List Text) (b : SequenceOf Text) (j k : ℕ) (c d : TreeOf Text) → IsSequenceAt m path ks ps b → nth (statement_trees b.statements) j ≡ Some c → nth (statement_trees b.statements) k ≡ Some d
    → scopes_round (method_scope m) (path ++ j ∷ []) ≡ scopes_round (method_scope m) (path ++ k ∷ [])
statement_scopes m path ks ps b j k c d IsBody e f = one j c e ∙ sym (one k d f)
  where
    one : (n : ℕ) (t : TreeOf Text) → nth (statement_trees m.body.statements) n ≡ Some t → scopes_round (method_scope m) (n ∷ []) ≡ (0, method_scope m) ∷ []
    one n t q = ap (λ (o : Option (TreeOf Text)). unwrap_or (option_map (λ x. entered 1 x []) o) [] ++ (0, method_scope m) ∷ []) q
statement_scopes m path ks ps b j k c d (IsInBlock {k = n} {path = way} {ts = ts} {ss = ss} {e = tail} found) e f = one j c e ∙ sym (one k d f)
  where
    one : (l : ℕ) (t : TreeOf Text) → nth (statement_trees ss) l ≡ Some t
        → scopes_round (method_scope m) (n ∷ (way ++ l ∷ [])) ≡ own_scope (length (n ∷ way)) (block ps ts ss tail) ++ scopes_round (method_scope m) (n ∷ way)
    one l t q =
        scopes-on m n way (l ∷ []) (block ps ts ss tail) found
        ∙ ap (λ (o : Option (TreeOf Text)). (unwrap_or (option_map (λ x. entered (length (n ∷ way) + 1) x []) o) [] ++ own_scope (length (n ∷ way)) (block ps ts ss tail)) ++ scopes_round (method_scope m) (n ∷ way)) q

-- scopes to which fewer steps lead than so many
abbrev AreFewer : ℕ → List (PlacedScope Text) → Type 0
AreFewer b xs = AllByRecursion (λ (p : PlacedScope Text). p.0 < b) xs

both-fewer : (b : ℕ) (xs ys : List (PlacedScope Text)) → AreFewer b xs → AreFewer b ys → AreFewer b (xs ++ ys)
both-fewer b [] ys h g = g
both-fewer b (x ∷ xs) ys h g = (h.0, both-fewer b xs ys h.1 g)

own-fewer : (b depth : ℕ) (t : TreeOf Text) → depth < b → AreFewer b (own_scope depth t)
own-fewer b depth (var n) h = tt
own-fewer b depth (literal l) h = tt
own-fewer b depth (send r s xs) h = tt
own-fewer b depth (cascade r ms) h = tt
own-fewer b depth (assign n t) h = tt
own-fewer b depth (block ps ts ss e) h = (h, tt)
own-fewer b depth (brace ts) h = tt
own-fewer b depth (return t) h = tt

entered-fewer : (path : List ℕ) (b depth : ℕ) (t : TreeOf Text) → depth + length path ≤ b → AreFewer b (entered depth t path)
entered-fewer [] b depth t h = tt
entered-fewer (k ∷ path) b depth t h = both-fewer b _ (own_scope depth t) (by (child t k) (λ d. entered-fewer path b (depth + 1) d (omega (arith, h)))) (own-fewer b depth t (omega (arith, h)))
  where
    by : (o : Option (TreeOf Text)) → ((d : TreeOf Text) → AreFewer b (entered (depth + 1) d path)) → AreFewer b (unwrap_or (option_map (λ x. entered (depth + 1) x path) o) [])
    by None below = tt
    by (Some d) below = below d

round-fewer : (m : MethodOf Text) (k : ℕ) (path : List ℕ) → AreFewer (length (k ∷ path)) (scopes_round (method_scope m) (k ∷ path))
round-fewer m k path = both-fewer (length (k ∷ path)) _ ((0, method_scope m) ∷ []) (by (nth (statement_trees m.body.statements) k)) ((let some : 0 < length (k ∷ path) = omega arith in some), tt)
  where
    by : (o : Option (TreeOf Text)) → AreFewer (length (k ∷ path)) (unwrap_or (option_map (λ x. entered 1 x path) o) [])
    by None = tt
    by (Some d) = entered-fewer path (length (k ∷ path)) 1 d (let same : 1 + length path ≤ length (k ∷ path) = omega arith in same)

-- whether a name is declared in a scope to which fewer steps lead
abbrev pub is_declared_outside : ℕ → Local → Bool
is_declared_outside inside (Argument scope) = nat_lt scope inside
is_declared_outside inside (Temporary scope) = nat_lt scope inside
is_declared_outside inside NotLocal = false

local-fewer : (b : ℕ) (xs : List (PlacedScope Text)) (n : Text) → AreFewer b xs → is_declared_outside b (local_by text_eq xs n) ≡ is_local (local_by text_eq xs n)
local-fewer b [] n h = refl
local-fewer b (x ∷ xs) n h = by (is_among text_eq x.1.arguments n) (is_among text_eq x.1.temporaries n) (local-fewer b xs n h.1)
  where
    by : (a c : Bool) → is_declared_outside b (local_by text_eq xs n) ≡ is_local (local_by text_eq xs n) → is_declared_outside b (if a then Argument x.0 else if c then Temporary x.0 else local_by text_eq xs n) ≡ is_local (if a then Argument x.0 else if c then Temporary x.0 else local_by text_eq xs n)
    by true c later = lt-ltb x.0 b h.0
    by false true later = lt-ltb x.0 b h.0
    by false false later = later

-- what is declared round a place is declared in a scope to which fewer steps lead
pub declared-outside : (m : MethodOf Text) (k : ℕ) (path : List ℕ) (n : Text) → is_declared_outside (length (k ∷ path)) (local_by text_eq (scopes_round (method_scope m) (k ∷ path)) n) ≡ is_local (local_by text_eq (scopes_round (method_scope m) (k ∷ path)) n)
declared-outside m k path n = local-fewer (length (k ∷ path)) (scopes_round (method_scope m) (k ∷ path)) n (round-fewer m k path)
