-- The method in which a part is a temporary sets it once, and the method before is the one without it.
use Rattle.std.proofs.Common.{◌≡◌, ℕ, zero, suc, List, [], ◌∷◌, ◌++◌, length, Option, Some, None, refl, sym, ap, ◌∙◌, subst, append-nil, append_assoc, ◌⊎◌, inl, inr}
use Rattle.std.specs.Prelude.{true, false, not, ◌&&◌, map, option_map, option_and_then, unwrap_or, codes}
use Rattle.std.specs.List.{list_any}
use Rattle.std.specs.Option.{option_map_or}
use Rattle.std.proofs.lemmas.Bool.{false≢true}
use Rattle.rb_base.specs.Names.{text_eq}
use Rattle.tree_model.specs.Tree.{TreeOf, var, assign, block, StatementsOf, no_statements, more_statements, SequenceOf, MethodOf}
use Rattle.tree_model.specs.Path.{nth, statement_trees, part_at, part_in, with_statement, replaced, method_replaced}
use Rattle.tree_model.proofs.Parts.{part_at-append, part_in-replaced_in, replaced_in-replaced_in, replaced_in-part_in}
use Rattle.scope_model.specs.Control.{is_block, is_closure_at}
use Rattle.scope_model.specs.FreeNames.{take_statements, drop_statements}
use Rattle.scope_model.specs.SpecialNames.{is_pseudo_variable, control_form}
use Rattle.scope_model.specs.Scope.{PlacedScope, method_scope, scopes_round, entered}
use Rattle.image_model.specs.Image.{EntryOf, ImageOf}
use Rattle.image_model.specs.Means.{MeaningOf}
use Rattle.run_model.specs.Values.{Name}
use Rattle.resolved_model.specs.Environments.{Declared, as_argument, as_temporary, opened, kind_in, declared_in}
use Rattle.unfolded_calls.specs.SameContexts.{IsOutside}
use Rattle.unfolded_places.specs.PartsReplaced.{declared_round, declared_among}
use Rattle.unfolded_places.specs.Standing.{outer_of}
use Rattle.mapped_model.proofs.NodesBelow.{Below, among-first}
use Rattle.rename_model.specs.NamesThere.{is_named_by, is_named_in, is_named_in_method}
use Rattle.rename_laws.proofs.Unnamed.{neither_left, neither_right, node-unnamed}
use Rattle.command_model.specs.Asked.{text_asked}
use Rattle.command_model.specs.Parts.{Expression}
use Rattle.command_model.specs.Plain.{is_plain}
use Rattle.command_model.specs.Places.{is_closure_in}
use Rattle.command_model.specs.PartConditions.{is_part, is_first_evaluated}
use Rattle.command_model.specs.SameMethods.{is_super_node}
use Rattle.command_model.specs.Sequences.{joined}
use Rattle.command_model.specs.Temporaries.{temporary_extracted}
use Rattle.code_command_laws.specs.Round.{IsOpen, InBlock, let_sequence}
use Rattle.code_command_laws.proofs.PartRound.{BlockRound, node-round, open-enters, block-there, statement-there, body-part, body-extracted, block-old, block-part, block-extracted}
use Rattle.code_command_laws.proofs.FirstAt.{part-is, body-first, body-closure, block-first, block-closure}
use Rattle.let_laws.specs.ReadsFirst.{IsWithout, LinesWithout, IsSimple, ReadsFirst}
use Rattle.let_laws.specs.Lets.{LetLines, let_later, let_first, IsLet, LetIn, let_in_body, let_in_block}
use Rattle.let_laws.proofs.Unnamed.{Nameless, tree-nameless, lines-nameless}
use Rattle.let_laws.proofs.PlainPlaces.{plain-there}
use Rattle.let_laws.proofs.FirstEvaluated.{IsNotInPlace, first-evaluated, open-without}
use Rattle.let_laws.proofs.ScopesRound.{declared-inside, fresh-scope, fresh-inside, among-replaced}

-- the statements with an assignment before the one that reads what is assigned
lines-let : {f : Name → MeaningOf Name} {A B : List Declared} (x : Name) (part : TreeOf Name) (n k : ℕ) (ss : StatementsOf Name) (s s' : TreeOf Name) → nth (statement_trees ss) k ≡ Some s → LinesWithout x ss → IsWithout x part → (part ≡ var (codes "super") → ⊥) → ReadsFirst f B x part n s' s →
    LetLines f x A B (joined (take_statements k (with_statement ss k s')) (more_statements [] (assign x part) (drop_statements k (with_statement ss k s')))) ss
lines-let x part n k no_statements s s' e w v o r = absurd (cc)
lines-let {f} {A} {B} x part n zero (more_statements c t ss) s s' e w v o r =
    let_first n [] c c part ss v o (subst (λ z. ReadsFirst f B x part n s' z) (sym (same e)) r) w.1
  where
    same : Some t ≡ Some s → t ≡ s
    same q = cc
lines-let x part n (suc k) (more_statements c t ss) s s' e w v o r = let_later c c t w.0 (lines-let x part n k ss s s' e w.1 v o r)

nth-lines : (x : Name) (ss : StatementsOf Name) (k : ℕ) (s : TreeOf Name) → nth (statement_trees ss) k ≡ Some s → LinesWithout x ss → IsWithout x s
nth-lines x no_statements k s e w = absurd (cc)
nth-lines x (more_statements c t ss) zero s e w = subst (IsWithout x) (same e) w.0
  where
    same : Some t ≡ Some s → t ≡ s
    same q = cc
nth-lines x (more_statements c t ss) (suc k) s e w = nth-lines x ss k s e w.1

-- the declarations of a scope in two parts
apart-last : (ps ts : List Name) (around : List Declared) → opened ps ts around ≡ opened ps ts [] ++ around
apart-last ps ts around =
    ap (λ l. map as_argument ps ++ (l ++ around)) (sym (append-nil (map as_temporary ts))) ∙ sym (append_assoc (map as_argument ps) (map as_temporary ts ++ []) around)

-- a sequence with the assignment, and the one before
let-of : (f : Name → MeaningOf Name) (around : List Declared) (ps : List Name) (b : SequenceOf Name) (x : Name) (part : TreeOf Name) (n k : ℕ) (s s' : TreeOf Name) → is_pseudo_variable x ≡ false → kind_in (opened ps b.temporaries around) x ≡ None →
    nth (statement_trees b.statements) k ≡ Some s → LinesWithout x b.statements → IsWithout x part → (part ≡ var (codes "super") → ⊥) → ReadsFirst f (opened ps b.temporaries around) x part n s' s → IsLet f around ps (let_sequence k part x s' b) b
let-of f around ps b x part n k s s' proper fresh e w v o r = record {
  temporary = x;
  proper = proper;
  front = b.temporaries;
  back = [];
  before = refl;
  after = sym (append-nil b.temporaries);
  alone = ap (λ E. kind_in E x) (sym (apart-last ps b.temporaries around)) ∙ fresh;
  lines = lines-let x part n k b.statements s s' e w v o (subst (λ E. ReadsFirst f E x part n s' s) (apart-last ps b.temporaries around) r);
}

module _ (i : ImageOf Name) (m : EntryOf Name) (outside : (n : Name) → IsOutside (outer_of i m n)) (x : Name) (proper : is_pseudo_variable x ≡ false) (unnamed : is_named_in_method text_eq x m ≡ false) (part : TreeOf Name) where
  in-body : is_named_in text_eq x m.tree.body ≡ false
  in-body = neither_right (list_any (text_eq x) m.tree.arguments) _ unnamed

  nodes-nameless : (path : List ℕ) (u : TreeOf Name) → part_in m.tree.body path ≡ Some u → is_named_by text_eq x u ≡ false
  nodes-nameless path u q = node-unnamed x x m.tree.body in-body path u q

  body-without : LinesWithout x m.tree.body.statements
  body-without = lines-nameless x m.tree.body.statements 0 (among-first (Nameless x) (statement_trees m.tree.body.statements) nodes-nameless)

  abbrev outermost : List (PlacedScope Name)
  outermost = (0, method_scope m.tree) ∷ []

  fresh-method : kind_in (declared_in outermost) x ≡ None
  fresh-method = fresh-scope x 0 m.tree.arguments m.tree.body.temporaries m.tree.body.statements [] (neither_left (list_any (text_eq x) m.tree.arguments) _ unnamed) (neither_left (list_any (text_eq x) m.tree.body.temporaries) _ in-body) refl

  -- the part is not `super`
  never-super : (path : List ℕ) → part_in m.tree.body path ≡ Some part → is_part text_asked m.tree (Expression path) ≡ true → part ≡ var (codes "super") → ⊥
  never-super path e h q = false≢true (sym (part-is text_asked i m x part path e h).0 ∙ ap (λ t. is_super_node text_asked.is_super t) q)

  -- nor a block that is run in place
  not-in-place : (path : List ℕ) (s : TreeOf Name) (ks : List ℕ) → part_in m.tree.body path ≡ Some part → is_part text_asked m.tree (Expression path) ≡ true → is_closure_in control_form m.tree.body path ≡ is_closure_at control_form false s ks → IsNotInPlace false s ks part
  not-in-place path s ks e h q =
      ap (λ b. is_block part && not b) (sym q) ∙ ap (λ (o : Option (TreeOf Name)). option_map_or is_block o false && not (is_closure_in control_form m.tree.body path)) (sym e) ∙ (part-is text_asked i m x part path e h).1

  -- what `extractTemp` makes of the method
  abbrev Extracts : List ℕ → Type 0
  Extracts path = (t : MethodOf Name) × (temporary_extracted text_asked m.tree path x ≡ Some t) × LetIn (outer_of i m) t m.tree × (t.selector ≡ m.tree.selector) × (t.primitive ≡ m.tree.primitive)

  -- a part of a statement of the body
  extracted-body : (k : ℕ) (s : TreeOf Name) (ks : List ℕ) → nth (statement_trees m.tree.body.statements) k ≡ Some s → IsOpen part s ks → is_part text_asked m.tree (Expression (k ∷ ks)) ≡ true → is_first_evaluated text_asked i m (Expression (k ∷ ks)) ≡ true → Extracts (k ∷ ks)
  extracted-body k s ks e p h first = (
    record m.tree { body = let_sequence k part x (replaced s ks (var x)) m.tree.body },
    body-extracted text_asked m.tree x part k s ks e p,
    let_in_body m.tree.body (let-of (outer_of i m) [] m.tree.arguments m.tree.body x part (length ks) k s (replaced s ks (var x)) proper fresh-method e body-without (open-without i m (k ∷ ks) (outer_of i m) around x part plain p here) (never-super (k ∷ ks) there h) reads),
    refl,
    refl,
  )
    where
      around : List Declared
      around = opened m.tree.arguments m.tree.body.temporaries []

      there : part_in m.tree.body (k ∷ ks) ≡ Some part
      there = body-part text_asked m.tree x part k s ks e p

      here : IsWithout x s
      here = nth-lines x m.tree.body.statements k s e body-without

      round : declared_in (scopes_round (method_scope m.tree) (k ∷ ks)) ≡ around
      round = ap (λ o. declared_in (unwrap_or (option_map (λ c. entered 1 c ks) o) [] ++ outermost)) e ∙ ap (λ l. declared_in (l ++ outermost)) (open-enters 1 p)

      plain : (t : TreeOf Name) → IsWithout x t → is_plain text_asked i m (k ∷ ks) t ≡ true → IsSimple (outer_of i m) around x t
      plain = plain-there i m outside x (k ∷ ks) around round

      reads : ReadsFirst (outer_of i m) around x part (length ks) (replaced s ks (var x)) s
      reads = first-evaluated i m (k ∷ ks) (outer_of i m) around x part plain p false (not-in-place (k ∷ ks) s ks there h (body-closure text_asked i m x part k s ks e p)) here (body-first text_asked i m x part k s ks e p first)

  -- a part of a statement of a block
  extracted-block : (j : ℕ) (c : TreeOf Name) → nth (statement_trees m.tree.body.statements) j ≡ Some c → (ps : List Name) (b : SequenceOf Name) (k : ℕ) (s : TreeOf Name) (ks js : List ℕ) → InBlock part ps b k s ks c js → is_part text_asked m.tree (Expression (j ∷ js ++ k ∷ ks)) ≡ true →
      is_first_evaluated text_asked i m (Expression (j ∷ js ++ k ∷ ks)) ≡ true → Extracts (j ∷ js ++ k ∷ ks)
  extracted-block j c e ps b k s ks js p h first = (
    tree,
    block-extracted text_asked m.tree x part j c e ps b k s ks js p,
    subst (LetIn (outer_of i m) tree) back
        (let_in_block (j ∷ js) ps new b (part_in-replaced_in m.tree.body (j ∷ js) (block ps b.temporaries b.statements b.tail) (block ps new.temporaries new.statements new.tail) old)
        (subst (λ E. IsLet (outer_of i m) E ps new b) (sym (among-replaced (declared_in outermost) m.tree.body.statements j js (block ps new.temporaries new.statements new.tail)))
        (let-of (outer_of i m) around ps b x part (length ks) k s (replaced s ks (var x)) proper fresh (statement-there p).0 without (open-without i m whole (outer_of i m) inside x part plain (statement-there p).1 here) (never-super whole there h) reads))),
    refl,
    refl,
  )
    where
      whole : List ℕ
      whole = j ∷ js ++ k ∷ ks

      new : SequenceOf Name
      new = let_sequence k part x (replaced s ks (var x)) b

      tree : MethodOf Name
      tree = method_replaced m.tree (j ∷ js) (block ps new.temporaries new.statements new.tail)

      old : part_in m.tree.body (j ∷ js) ≡ Some (block ps b.temporaries b.statements b.tail)
      old = block-old text_asked m.tree x part j c e ps b k s ks js p

      back : method_replaced tree (j ∷ js) (block ps b.temporaries b.statements b.tail) ≡ m.tree
      back = λ z. record m.tree { body = (replaced_in-replaced_in m.tree.body (j ∷ js) (block ps new.temporaries new.statements new.tail) (block ps b.temporaries b.statements b.tail) ∙ replaced_in-part_in m.tree.body (j ∷ js) (block ps b.temporaries b.statements b.tail) old) z }

      around : List Declared
      around = declared_among (declared_in outermost) m.tree.body.statements (j ∷ js)

      inside : List Declared
      inside = opened ps b.temporaries around

      there : part_in m.tree.body whole ≡ Some part
      there = block-part text_asked m.tree x part j c e ps b k s ks js p

      below : Below (Nameless x) c
      below path u q = nodes-nameless (j ∷ path) u (ap (option_and_then (λ z. part_at z path)) e ∙ q)

      among-so : around ≡ declared_round (declared_in outermost) c js
      among-so = ap (λ o. unwrap_or (option_map (λ z. declared_round (declared_in outermost) z js) o) (declared_in outermost)) e

      fresh : kind_in inside x ≡ None
      fresh = ap (λ A. kind_in (opened ps b.temporaries A) x) among-so ∙ fresh-inside x 1 outermost p below fresh-method

      round : declared_in (scopes_round (method_scope m.tree) whole) ≡ inside
      round =
          ap (λ o. declared_in (unwrap_or (option_map (λ z. entered 1 z (js ++ k ∷ ks)) o) [] ++ outermost)) e
          ∙ declared-inside 1 outermost p ∙ ap (opened ps b.temporaries) (sym among-so)

      without : LinesWithout x b.statements
      without = tree-nameless x (block ps b.temporaries b.statements b.tail) (λ path u q. nodes-nameless (j ∷ js ++ path) u (ap (option_and_then (λ z. part_at z (js ++ path))) e ∙ part_at-append c js path ∙ ap (option_and_then (λ z. part_at z path)) (block-there p) ∙ q))

      here : IsWithout x s
      here = nth-lines x b.statements k s (statement-there p).0 without

      plain : (t : TreeOf Name) → IsWithout x t → is_plain text_asked i m whole t ≡ true → IsSimple (outer_of i m) inside x t
      plain = plain-there i m outside x whole inside round

      reads : ReadsFirst (outer_of i m) inside x part (length ks) (replaced s ks (var x)) s
      reads = first-evaluated i m whole (outer_of i m) inside x part plain (statement-there p).1 false (not-in-place whole s ks there h (block-closure text_asked i m x part j c e ps b k s ks js p)) here (block-first text_asked i m x part j c e ps b k s ks js p first)

  -- wherever it stands
  pub extracted : (path : List ℕ) → part_in m.tree.body path ≡ Some part → is_part text_asked m.tree (Expression path) ≡ true → is_first_evaluated text_asked i m (Expression path) ≡ true → Extracts path
  extracted [] e h first = absurd (cc)
  extracted (k ∷ ks) e h first = by (nth (statement_trees m.tree.body.statements) k) refl e
    where
      further : (c : TreeOf Name) → nth (statement_trees m.tree.body.statements) k ≡ Some c → IsOpen part c ks ⊎ BlockRound part c ks → Extracts (k ∷ ks)
      further c q (inl p) = extracted-body k c ks q p h first
      further c q (inr r) =
          subst (λ l. Extracts (k ∷ l)) (sym r.same)
          (extracted-block k c q r.parameters r.sequence r.number r.statement r.rest r.steps r.inside (subst (λ l. is_part text_asked m.tree (Expression (k ∷ l)) ≡ true) r.same h) (subst (λ l. is_first_evaluated text_asked i m (Expression (k ∷ l)) ≡ true) r.same first))

      by : (o : Option (TreeOf Name)) → nth (statement_trees m.tree.body.statements) k ≡ o → option_and_then (λ c. part_at c ks) o ≡ Some part → Extracts (k ∷ ks)
      by None q e = absurd (cc)
      by (Some c) q e = further c q (node-round part c ks e)
