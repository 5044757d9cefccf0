-- What holds of each name in a method holds of each name in what it assigns to a temporary, and in the method in which that stands in place of the temporary.
use Rattle.std.proofs.Common.{◌≡◌, ℕ, ◌<◌, suc, Bool, true, false, cond, not, List, [], ◌∷◌, length, take, Option, None, Some, option_map, slice_get, refl, sym, ap, subst, ◌∙◌}
use Rattle.std.specs.Prelude.{◌==◌, filter, is_some, nat_eq, if◌then◌else◌}
use Rattle.std.specs.List.{AllByRecursion}
use Rattle.std.specs.Option.{ForSome, option_and_then}
use Rattle.tree_model.specs.Tree.{TreeOf, var, literal, send, cascade, assign, block, brace, return, no_statements, SequenceOf, MethodOf}
use Rattle.tree_model.specs.AllNames.{AllNames, MethodNames}
use Rattle.tree_model.specs.Nodes.{Placed, nodes}
use Rattle.tree_model.specs.Normal.{normal}
use Rattle.strip_model.proofs.KnownNodes.{known-nodes}
use Rattle.command_model.specs.Asked.{no_parts}
use Rattle.command_model.specs.Numbers.{number_asked}
use Rattle.command_model.specs.Sequences.{put_for, sequence_changed}
use Rattle.command_model.specs.Temporaries.{LetOf, only, is_declared_once, let_of, temporary_inlined}
use Rattle.command_model.specs.Walk.{Making, rebuilt_method}
use Rattle.temporary_code.proofs.NamesKept.{names-rebuilt_statements}
use Rattle.let_code.specs.declared.assignment.Let.{Let}
use Rattle.let_code.specs.Lets.{let_as}
use Rattle.let_code.specs.Uses.{assigned_scope, is_assigned, is_read, let_at}
use Rattle.let_code.proofs.Known.{without-names, sequence-names, normal-names}

module _ (P : ℕ → Type 0) where
  -- each name in a node has the property
  abbrev Known : Placed ℕ → Type 0
  Known e = AllNames P e.1

  -- of an item that is the only one of those that pass
  kept-known : (p : Placed ℕ → Bool) (es : List (Placed ℕ)) → AllByRecursion Known es → AllByRecursion Known (filter p es)
  kept-known p [] a = tt
  kept-known p (e ∷ es) a = by (p e) (kept-known p es a.1)
    where
      by : (b : Bool) → AllByRecursion Known (filter p es) → AllByRecursion Known (cond b (e ∷ filter p es) (filter p es))
      by true rest = (a.0, rest)
      by false rest = rest

  only-known : (es : List (Placed ℕ)) (e : Placed ℕ) → AllByRecursion Known es → only es ≡ Some e → Known e
  only-known [] e a h = absurd (cc)
  only-known (x ∷ []) e a h = let same : x ≡ e = cc in subst Known same a.0
  only-known (x ∷ y ∷ ys) e a h = absurd (cc)

  -- of the value of an assignment
  value-known : (e : Placed ℕ) (scope : ℕ) (f : LetOf ℕ) → Known e → let_at e scope ≡ Some f → AllNames P f.value
  value-known (path, assign n t) scope f a h = by (length path == suc scope) (slice_get path scope) h
    where
      by : (b : Bool) (o : Option ℕ) → (if b then option_map (λ (k : ℕ). record { sequence = take scope path; number = k; value = t }) o else None) ≡ Some f → AllNames P f.value
      by true None is = absurd (cc)
      by true (Some k) is = let same : record { sequence = take scope path; number = k; value = t } ≡ f = cc in subst (λ (g : LetOf ℕ). AllNames P g.value) same a.1
      by false o is = absurd (cc)
  value-known (path, var n) scope f a h = absurd (cc)
  value-known (path, literal l) scope f a h = absurd (cc)
  value-known (path, send r s args) scope f a h = absurd (cc)
  value-known (path, cascade r ms) scope f a h = absurd (cc)
  value-known (path, block ps ts ss d) scope f a h = absurd (cc)
  value-known (path, brace ts) scope f a h = absurd (cc)
  value-known (path, return t) scope f a h = absurd (cc)

  module _ (names : List (List ℕ)) (m : MethodOf ℕ) (x : ℕ) where
    -- the assignment that is found among nodes
    abbrev found_among : Bool → List (Placed ℕ) → Option (LetOf ℕ)
    found_among b es =
        if b then option_and_then (λ e. option_and_then (let_at e) (assigned_scope names m x e)) (only (filter (is_assigned names m x) es)) else None

    among-known : (b : Bool) (es : List (Placed ℕ)) (f : LetOf ℕ) → AllByRecursion Known es → found_among b es ≡ Some f → AllNames P f.value
    among-known false es f a h = absurd (cc)
    among-known true es f a h = by (only (filter (is_assigned names m x) es)) (λ e is. only-known (filter (is_assigned names m x) es) e (kept-known (is_assigned names m x) es a) is) h
      where
        of-scope : (e : Placed ℕ) (o : Option ℕ) → Known e → option_and_then (let_at e) o ≡ Some f → AllNames P f.value
        of-scope e None k is = absurd (cc)
        of-scope e (Some scope) k is = value-known e scope f k is

        by : (o : Option (Placed ℕ)) → ((e : Placed ℕ) → o ≡ Some e → Known e) → option_and_then (λ e. option_and_then (let_at e) (assigned_scope names m x e)) o ≡ Some f → AllNames P f.value
        by None k is = absurd (cc)
        by (Some e) k is = of-scope e (assigned_scope names m x e) (k e refl) is

    -- of what the method assigns
    pub let-known : (found : Option Let) → option_map let_as found ≡ let_of (number_asked names 0 no_parts) m x → MethodNames P m → ForSome found (λ (e : Let). AllNames P e.value.now)
    let-known found h a = λ e is. among-known (is_declared_once (number_asked names 0 no_parts) m x) (nodes m.body) (let_as e) (known-nodes P m.body a.body) (sym h ∙ ap (option_map let_as) is)

    -- the assignment is what is found among all nodes
    pub let-is : (e : Placed ℕ) → is_declared_once (number_asked names 0 no_parts) m x ≡ true → Some e ≡ only (filter (is_assigned names m x) (nodes m.body))
        → option_and_then (let_at e) (assigned_scope names m x e) ≡ let_of (number_asked names 0 no_parts) m x
    let-is e once is =
        (λ j. if (sym once j) then option_and_then (λ (f : Placed ℕ). option_and_then (let_at f) (assigned_scope names m x f)) (is j) else None)

    -- of the method in which that stands in place of the temporary
    module _ (e : LetOf ℕ) where
      abbrev with_value : Making ℕ
      with_value path (var n) = if is_read names m x (path, var n) then e.value else var n
      with_value path t = t

      with_value-known : AllNames P e.value → (path : List ℕ) (t : TreeOf ℕ) → AllNames P t → AllNames P (with_value path t)
      with_value-known v path (var n) a = by (is_read names m x (path, var n))
        where
          by : (b : Bool) → AllNames P (if b then e.value else var n)
          by true = v
          by false = a
      with_value-known v path (literal l) a = a
      with_value-known v path (send r s args) a = a
      with_value-known v path (cascade r ms) a = a
      with_value-known v path (assign n t) a = a
      with_value-known v path (block ps ts ss d) a = a
      with_value-known v path (brace ts) a = a
      with_value-known v path (return t) a = a

      pub inlined-known : MethodNames P m → AllNames P e.value → MethodNames P (normal (temporary_inlined (number_asked names 0 no_parts) m x e))
      inlined-known a v =
          normal-names P (temporary_inlined (number_asked names 0 no_parts) m x e)
          (sequence-names P (λ b. let c : SequenceOf ℕ = put_for e.number no_statements b in record c { temporaries = filter (λ n. not (nat_eq x n)) c.temporaries }) (λ b h. without-names P x e.number b h) e.sequence
          (rebuilt_method with_value m)
          (record {
            selector = a.selector;
            arguments = a.arguments;
            body = record { temporaries = a.body.temporaries; statements = names-rebuilt_statements P with_value (with_value-known v) 0 m.body.statements a.body.statements };
          }))
