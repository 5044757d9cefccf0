-- The sequence that declares a temporary which no other place declares: what stands there, and where its name is the temporary.
use Rattle.std.proofs.Common.{◌≡◌, ℕ, ◌+◌, List, [], ◌∷◌, ◌++◌, length, Option, Some, None, is_some, refl, sym, ap, ◌∙◌, subst, arith, append_assoc, append-nil, ◌⊎◌, inl, inr}
use Rattle.std.specs.Prelude.{Bool, true, false, ◌||◌, if◌then◌else◌, option_map, option_and_then, unwrap_or, ◌==◌}
use Rattle.std.specs.List.{list_any}
use Rattle.std.proofs.lemmas.Bool.{false≢true, eqb-true, eq-eqb}
use Rattle.std.proofs.lemmas.List.Folds.{list_any-append}
use Rattle.rb_base.specs.Names.{text_eq}
use Rattle.tree_model.specs.Tree.{TreeOf, var, literal, send, cascade, assign, block, brace, return, no_statements, SequenceOf, MethodOf}
use Rattle.tree_model.specs.Path.{nth, statement_trees, child, part_at, part_in}
use Rattle.scope_model.specs.declared.local.Local.{Local}
use Rattle.scope_model.specs.declared.local.Local.TheVariants.{Argument, Temporary, NotLocal}
use Rattle.scope_model.specs.SpecialNames.{is_pseudo_variable}
use Rattle.scope_model.specs.Scope.{ScopeOf, PlacedScope, method_scope, block_scope, own_scope, entered, scopes_round, local_by, local_in}
use Rattle.scope_model.specs.FreeNames.{statements_at}
use Rattle.run_model.specs.Values.{Name}
use Rattle.rename_model.specs.NamesThere.{declared_by}
use Rattle.rename_laws.proofs.Unnamed.{neither_left, neither_right}
use Rattle.unfolded_calls.proofs.Running.{none-some}
use Rattle.command_model.specs.Asked.{text_asked}
use Rattle.command_model.specs.Places.{temporary_scope}
use Rattle.command_model.specs.Temporaries.{is_declared_once}
use Rattle.code_command_laws.proofs.PartRound.{block_with, scope_with}
use Rattle.code_command_laws.proofs.DeclaredOnce.{RoundOne}
use Rattle.code_command_laws.proofs.LetRound.{Outside, both-outside, own-outside}
use Rattle.code_command_laws.proofs.OneDeclaration.{DeclaredByBody, DeclaredByBlock}
use Rattle.code_command_laws.proofs.PutBackRun.{part_in-append}
use Rattle.moved_code_laws.proofs.LocalsThere.{or_local, local-inside}
use Rattle.moved_code_laws.proofs.ScopesOn.{part-in-on, scopes-on}

-- a step more
pub step-apart : (path : List ℕ) (j : ℕ) (q : List ℕ) → (path ++ j ∷ []) ++ q ≡ path ++ j ∷ q
step-apart path j q = append_assoc path (j ∷ []) q

-- a path does not go on behind its end
pub no-further : (path : List ℕ) (j : ℕ) (q : List ℕ) → path ≡ path ++ j ∷ q → ⊥
no-further [] j q e = absurd (cc)
no-further (k ∷ path) j q e = no-further path j q (tails e)
  where
    tails : k ∷ path ≡ k ∷ (path ++ j ∷ q) → path ≡ path ++ j ∷ q
    tails z = cc

-- a path goes on from another one, or not
pub goes-on : (path r : List ℕ) → ((rest : List ℕ) × (r ≡ path ++ rest)) ⊎ ((rest : List ℕ) → r ≡ path ++ rest → ⊥)
goes-on [] r = inl (r, refl)
goes-on (j ∷ path) [] = inr (λ rest e. none rest e)
  where
    none : (rest : List ℕ) → [] ≡ j ∷ (path ++ rest) → ⊥
    none rest e = cc
goes-on (j ∷ path) (k ∷ r) = by (k == j) refl (goes-on path r)
  where
    tails : (rest : List ℕ) → k ∷ r ≡ j ∷ (path ++ rest) → r ≡ path ++ rest
    tails rest e = cc

    heads : (rest : List ℕ) → k ∷ r ≡ j ∷ (path ++ rest) → k ≡ j
    heads rest e = cc

    by : (b : Bool) → (k == j) ≡ b → ((rest : List ℕ) × (r ≡ path ++ rest)) ⊎ ((rest : List ℕ) → r ≡ path ++ rest → ⊥) → ((rest : List ℕ) × (k ∷ r ≡ (j ∷ path) ++ rest)) ⊎ ((rest : List ℕ) → k ∷ r ≡ (j ∷ path) ++ rest → ⊥)
    by true q (inl h) = inl (h.0, λ z. eqb-true k j q z ∷ h.1 z)
    by true q (inr h) = inr (λ rest e. h rest (tails rest e))
    by false q h = inr (λ rest e. false≢true (sym q ∙ eq-eqb k j (heads rest e)))

module _ (x : Name) where
  -- no node on the way declares the name
  abbrev pub FreeOnWay : TreeOf Name → List ℕ → Type 0
  FreeOnWay t path = (q : List ℕ) (k : ℕ) (rest : List ℕ) (u : TreeOf Name) → path ≡ q ++ k ∷ rest → part_at t q ≡ Some u → list_any (text_eq x) (declared_by u) ≡ false

  own-free : (d : ℕ) (t : TreeOf Name) → list_any (text_eq x) (declared_by t) ≡ false → local_by text_eq (own_scope d t) x ≡ NotLocal
  own-free d (var n) e = refl
  own-free d (literal l) e = refl
  own-free d (send r s args) e = refl
  own-free d (cascade r ms) e = refl
  own-free d (assign n t) e = refl
  own-free d (block ps ts ss c) e =
      let both = sym (list_any-append (text_eq x) ps ts) ∙ e in
      λ z. if neither_left (list_any (text_eq x) ps) (list_any (text_eq x) ts) both z then Argument d else if neither_right (list_any (text_eq x) ps) (list_any (text_eq x) ts) both z then Temporary d else NotLocal
  own-free d (brace ts) e = refl
  own-free d (return t) e = refl

  -- so no scope that a path enters declares it
  pub entered-free : (path : List ℕ) (d : ℕ) (t : TreeOf Name) → FreeOnWay t path → local_by text_eq (entered d t path) x ≡ NotLocal
  entered-free [] d t h = refl
  entered-free (k ∷ ks) d t h =
      local-inside (unwrap_or (option_map (λ c. entered (d + 1) c ks) (child t k)) []) (own_scope d t) x
      ∙ (λ z. or_local (inner (child t k) refl (λ c. entered-free ks (d + 1) c) z) (own-free d t (h [] k ks t refl refl) z))
    where
      inner : (o : Option (TreeOf Name)) → child t k ≡ o → ((c : TreeOf Name) → FreeOnWay c ks → local_by text_eq (entered (d + 1) c ks) x ≡ NotLocal) → local_by text_eq (unwrap_or (option_map (λ c. entered (d + 1) c ks) o) []) x ≡ NotLocal
      inner None e ih = refl
      inner (Some c) e ih = ih c (λ q j rest u s p. h (k ∷ q) j rest u (ap (λ l. k ∷ l) s) (ap (option_and_then (λ z. part_at z q)) e ∙ p))

  -- the scopes round a place of a method
  module _ (m : MethodOf Name) (arguments : list_any (text_eq x) m.arguments ≡ false) (temporaries : list_any (text_eq x) m.body.temporaries ≡ false) where
    pub rounds-free : (path : List ℕ) → ((q : List ℕ) (k : ℕ) (rest : List ℕ) (u : TreeOf Name) → path ≡ q ++ k ∷ rest → part_in m.body q ≡ Some u → list_any (text_eq x) (declared_by u) ≡ false) → local_by text_eq (scopes_round (method_scope m) path) x ≡ NotLocal
    rounds-free [] h = λ z. if arguments z then Argument 0 else if temporaries z then Temporary 0 else NotLocal
    rounds-free (k ∷ ks) h =
        local-inside (unwrap_or (option_map (λ c. entered 1 c ks) (nth (statement_trees m.body.statements) k)) []) ((0, method_scope m) ∷ []) x
        ∙ (λ z. or_local (inner (nth (statement_trees m.body.statements) k) refl z) (if arguments z then Argument 0 else if temporaries z then Temporary 0 else NotLocal))
      where
        inner : (o : Option (TreeOf Name)) → nth (statement_trees m.body.statements) k ≡ o → local_by text_eq (unwrap_or (option_map (λ c. entered 1 c ks) o) []) x ≡ NotLocal
        inner None e = refl
        inner (Some c) e = entered-free ks 1 c (λ q j rest u s p. h (k ∷ q) j rest u (ap (λ l. k ∷ l) s) (ap (option_and_then (λ z. part_at z q)) e ∙ p))

-- fewer steps lead to the scopes round a place
entered-before : (ks : List ℕ) (d n : ℕ) (t : TreeOf Name) → n ≡ d + length ks → Outside n (entered d t ks)
entered-before [] d n t e = tt
entered-before (k ∷ ks) d n t e = both-outside n _ (own_scope d t) (inner (child t k) (λ c. entered-before ks (d + 1) n c (omega (arith, e)))) (own-outside n d t (omega (arith, e)))
  where
    inner : (o : Option (TreeOf Name)) → ((c : TreeOf Name) → Outside n (entered (d + 1) c ks)) → Outside n (unwrap_or (option_map (λ c. entered (d + 1) c ks) o) [])
    inner None ih = tt
    inner (Some c) ih = ih c

rounds-before : (m : MethodOf Name) (k : ℕ) (ks : List ℕ) → Outside (length (k ∷ ks)) (scopes_round (method_scope m) (k ∷ ks))
rounds-before m k ks = both-outside (length (k ∷ ks)) _ ((0, method_scope m) ∷ []) (inner (nth (statement_trees m.body.statements) k)) (omega arith, tt)
  where
    inner : (o : Option (TreeOf Name)) → Outside (length (k ∷ ks)) (unwrap_or (option_map (λ c. entered 1 c ks) o) [])
    inner None = tt
    inner (Some c) = entered-before ks 1 (length (k ∷ ks)) c (omega arith)

module _ (m : MethodOf Name) (x : Name) (path : List ℕ) (ps : List Name) (b : SequenceOf Name) where
  -- a place in a statement of the sequence
  pub record Inside (r : List ℕ) (u : TreeOf Name) : Type 0 where
    pub number : ℕ
    pub statement : TreeOf Name
    pub rest : List ℕ
    pub same : r ≡ path ++ number ∷ rest
    pub at : nth (statement_trees b.statements) number ≡ Some statement
    pub there : part_at statement rest ≡ Some u

  -- The sequence where a path leads, with its parameters and the scopes round it: it declares the name once, and what stands inside it and round it does not; no name outside it is the temporary.
  pub record Declares (outer : List (PlacedScope Name)) : Type 0 where
    pub statements : statements_at m.body path ≡ b.statements
    pub stands : (j : ℕ) (t : TreeOf Name) → nth (statement_trees b.statements) j ≡ Some t → part_in m.body (path ++ j ∷ []) ≡ Some t
    pub round : (j : ℕ) (t : TreeOf Name) → nth (statement_trees b.statements) j ≡ Some t → scopes_round (method_scope m) (path ++ j ∷ []) ≡ (length path, scope_with ps b) ∷ outer
    pub before : Outside (length path) outer
    pub outer_free : local_by text_eq outer x ≡ NotLocal
    pub parameters : list_any (text_eq x) ps ≡ false
    pub temporaries : RoundOne (text_eq x) b.temporaries
    pub inside_free : (j : ℕ) (t : TreeOf Name) → nth (statement_trees b.statements) j ≡ Some t → (q : List ℕ) (u : TreeOf Name) → part_at t q ≡ Some u → list_any (text_eq x) (declared_by u) ≡ false
    pub reads_inside : (r : List ℕ) (n : Name) → part_in m.body r ≡ Some (var n) → is_some (temporary_scope (local_in text_eq is_pseudo_variable m r x)) ≡ true → Inside r (var n)

module _ (m : MethodOf Name) (x : Name) (once : is_declared_once text_asked m x ≡ true) where
  -- no scope is no temporary
  no-temporary : (c : Bool) (l : Local) → l ≡ NotLocal → is_some (temporary_scope (if c then NotLocal else l)) ≡ true → ⊥
  no-temporary true l e h = false≢true h
  no-temporary false l e h = false≢true (sym (ap (λ z. is_some (temporary_scope z)) e) ∙ h)

  -- the body
  pub declares-body : DeclaredByBody text_asked m x once → Declares m x [] m.arguments m.body []
  declares-body d = record {
    statements = refl;
    stands = λ j t e. ap (option_and_then (λ c. part_at c [])) e;
    round = λ j t e. ap (λ o. unwrap_or (option_map (λ c. entered 1 c []) o) [] ++ (0, method_scope m) ∷ []) e;
    before = tt;
    outer_free = refl;
    parameters = d.arguments;
    temporaries = d.round;
    inside_free = λ j t e q u p. d.nodes_free (j ∷ q) u (ap (option_and_then (λ c. part_at c q)) e ∙ p);
    reads_inside = λ r n e l. by r n e;
  }
    where
      by : (r : List ℕ) (n : Name) → part_in m.body r ≡ Some (var n) → Inside m x [] m.arguments m.body r (var n)
      by [] n e = none-some e
      by (j ∷ ks) n e = at (nth (statement_trees m.body.statements) j) refl e
        where
          at : (o : Option (TreeOf Name)) → nth (statement_trees m.body.statements) j ≡ o → option_and_then (λ c. part_at c ks) o ≡ Some (var n) → Inside m x [] m.arguments m.body (j ∷ ks) (var n)
          at None q e = none-some e
          at (Some t) q e = record { number = j; statement = t; rest = ks; same = refl; at = q; there = e }

  -- a block
  module _ (j : ℕ) (js : List ℕ) (ps : List Name) (b : SequenceOf Name) (there : part_in m.body (j ∷ js) ≡ Some (block_with ps b)) (d : DeclaredByBlock text_asked m x once (j ∷ js) ps b) where
    abbrev path : List ℕ
    path = j ∷ js

    inside-block : (k : ℕ) (ks : List ℕ) (n : Name) → part_in m.body (path ++ k ∷ ks) ≡ Some (var n) → Inside m x path ps b (path ++ k ∷ ks) (var n)
    inside-block k ks n e = at (nth (statement_trees b.statements) k) refl (sym (part_in-append m.body j js (k ∷ ks) ∙ ap (option_and_then (λ c. part_at c (k ∷ ks))) there) ∙ e)
      where
        at : (o : Option (TreeOf Name)) → nth (statement_trees b.statements) k ≡ o → option_and_then (λ c. part_at c ks) o ≡ Some (var n) → Inside m x path ps b (path ++ k ∷ ks) (var n)
        at None q e = none-some e
        at (Some t) q e = record { number = k; statement = t; rest = ks; same = refl; at = q; there = e }

    no-name : (n : Name) → Some (block_with ps b) ≡ Some (var n) → ⊥
    no-name n e = cc

    by-place : (r : List ℕ) (n : Name) → part_in m.body r ≡ Some (var n) → is_some (temporary_scope (local_in text_eq is_pseudo_variable m r x)) ≡ true → ((rest : List ℕ) × (r ≡ path ++ rest)) ⊎ ((rest : List ℕ) → r ≡ path ++ rest → ⊥) → Inside m x path ps b r (var n)
    by-place r n e l (inl ([], s)) = absurd (no-name n (sym there ∙ sym (ap (part_in m.body) (s ∙ append-nil path)) ∙ e))
    by-place r n e l (inl (k ∷ ks, s)) = subst (λ z. Inside m x path ps b z (var n)) (sym s) (inside-block k ks n (sym (ap (part_in m.body) s) ∙ e))
    by-place r n e l (inr apart) =
        absurd (no-temporary (is_pseudo_variable x) (local_by text_eq (scopes_round (method_scope m) r) x)
        (rounds-free x m d.arguments d.temporaries r (λ q k rest u s p. d.nodes_free q u p (λ z. apart (k ∷ rest) (s ∙ ap (λ w. w ++ k ∷ rest) (sym z))))) l)

    pub declares-block : Declares m x path ps b (scopes_round (method_scope m) path)
    declares-block = record {
      statements = ap (λ o. unwrap_or (option_map (λ (s : ScopeOf Name). s.statements) (option_and_then block_scope o)) no_statements) there;
      stands = λ k t e. part-in-on m path (k ∷ []) (block_with ps b) t there (ap (option_and_then (λ c. part_at c [])) e);
      round = λ k t e. scopes-on m path (k ∷ []) (block_with ps b) there ∙ ap (λ o. (unwrap_or (option_map (λ c. entered (length path + 1) c []) o) [] ++ (length path, scope_with ps b) ∷ []) ++ scopes_round (method_scope m) path) e;
      before = rounds-before m j js;
      outer_free = rounds-free x m d.arguments d.temporaries path (λ q k rest u s p. d.nodes_free q u p (λ z. no-further q k rest (sym z ∙ s)));
      parameters = d.parameters;
      temporaries = d.round;
      inside_free = λ k t e q u p. d.nodes_free (path ++ k ∷ q) u (part-in-on m path (k ∷ q) (block_with ps b) u there (ap (option_and_then (λ c. part_at c q)) e ∙ p)) (λ z. no-further path k q z);
      reads_inside = λ r n e l. by-place r n e l (goes-on path r);
    }

-- what the sequence declares stands for the temporary inside
module _ (m : MethodOf Name) (x : Name) (path : List ℕ) (ps : List Name) (b : SequenceOf Name) (outer : List (PlacedScope Name)) (d : Declares m x path ps b outer) where
  -- the scopes round a statement
  abbrev pub base : List (PlacedScope Name)
  base = (length path, scope_with ps b) ∷ outer

  among-so : (xs : List Name) → RoundOne (text_eq x) xs → list_any (text_eq x) xs ≡ true
  among-so xs r = ap (list_any (text_eq x)) r.same ∙ list_any-append (text_eq x) r.front (r.item ∷ r.back) ∙ (λ z. r.front_free z || (r.passes z || list_any (text_eq x) r.back))

  pub own-temporary : local_by text_eq base x ≡ Temporary (length path)
  own-temporary = λ z. if d.parameters z then Argument (length path) else if among-so b.temporaries d.temporaries z then Temporary (length path) else local_by text_eq outer x

  pub temporary-there : is_pseudo_variable x ≡ false → (j : ℕ) (t : TreeOf Name) → nth (statement_trees b.statements) j ≡ Some t → (q : List ℕ) (u : TreeOf Name) → part_at t q ≡ Some u → local_in text_eq is_pseudo_variable m (path ++ j ∷ q) x ≡ Temporary (length path)
  temporary-there proper j t at q u e =
      ap (λ c. if c then NotLocal else local_by text_eq (scopes_round (method_scope m) (path ++ j ∷ q)) x) proper
      ∙ ap (λ l. local_by text_eq (scopes_round (method_scope m) l) x) (sym (step-apart path j q))
      ∙ ap (λ l. local_by text_eq l x) (scopes-on m (path ++ j ∷ []) q t (d.stands j t at) ∙ ap (λ l. entered (length (path ++ j ∷ [])) t q ++ l) (d.round j t at))
      ∙ local-inside (entered (length (path ++ j ∷ [])) t q) base x
      ∙ (λ z. or_local (entered-free x q (length (path ++ j ∷ [])) t (λ p k rest w s g. d.inside_free j t at p w g) z) (own-temporary z))

  -- a place in a statement, in the method
  pub stands-there : (j : ℕ) (t : TreeOf Name) → nth (statement_trees b.statements) j ≡ Some t → (q : List ℕ) (u : TreeOf Name) → part_at t q ≡ Some u → part_in m.body (path ++ j ∷ q) ≡ Some u
  stands-there j t at q u e = ap (part_in m.body) (sym (step-apart path j q)) ∙ part-in-on m (path ++ j ∷ []) q t u (d.stands j t at) e
