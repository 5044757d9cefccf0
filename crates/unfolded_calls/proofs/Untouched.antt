-- Code that is the same before and after unfolds to itself.
use Rattle.std.proofs.Common.{◌≡◌, ℕ, zero, suc, ◌+◌, List, [], ◌∷◌, ◌++◌, length, map, Option, Some, None, refl, sym, ap, ◌∙◌, subst, arith, append_assoc}
use Rattle.std.specs.Prelude.{Bool, true, false, if◌then◌else◌, not, cond, find, replicate, slice_get, option_map, unwrap_or, codes}
use Rattle.std.specs.Option.{option_or, option_and_then}
use Rattle.std.proofs.lemmas.List.{length-replicate}
use Rattle.std.proofs.Math.Numerals.{one-add}
use Rattle.rb_base.specs.Names.{text_eq}
use Rattle.scope_model.specs.SpecialNames.{is_pseudo_variable}
use Rattle.tree_model.specs.Tree.{TreeOf, var, literal, send, cascade, assign, block, brace, return, TreesOf, no_trees, more_trees, MessagesOf, no_messages, more_messages, StatementsOf, no_statements, more_statements, SequenceOf}
use Rattle.image_model.specs.Image.{ClassOf}
use Rattle.image_model.specs.ImageNames.{OptionNames}
use Rattle.image_model.specs.Words.{text_words}
use Rattle.image_model.specs.Means.{of_instance, of_class_side, of_class, MeaningOf, pseudo, argument, temporary, variable, a_class, transcript, undeclared, as_variable, definer, side_kind, means_along}
use Rattle.image_model.specs.Chain.{class_named}
use Rattle.run_model.specs.Values.{Name}
use Rattle.resolved_model.specs.ResolvedTrees.{of_word, of_local, to_fixed, ResolvedTree, reading, sending, assigning, block_of, ResolvedTrees, no_nodes, more_nodes, ResolvedCode}
use Rattle.resolved_model.specs.ResolvedImages.{ResolvedImage}
use Rattle.resolved_model.specs.ResolvedShapes.{plain_code, one_code, two_codes, with_repeat, ResolvedBranch, ResolvedShape, chooses_way, repeats, as_message, resolved_shape}
use Rattle.resolved_model.specs.Resolving.{reference_of, target_of}
use Rattle.resolved_model.specs.Environments.{Declared, as_argument, as_temporary, opened, kind_in, place_in, reference_by, target_by, reference_in, target_in, tree_in, trees_in, messages_in, statements_in, code_in}
use Rattle.unfolded_calls.specs.Unfolding.{Allowed, shared, staying, an_argument, a_temporary, moved, farther, arguments_from, temporaries_from, Context, scoped, in_closure, IsOuterTarget, Unfolds, same_local, same_reading, same_constant, same_message, same_choice, same_loop, same_cascade, same_temporary, same_assignment, same_block, same_brace, same_return, UnfoldsAll, same_none, same_more, UnfoldsMessages, same_end, same_next, UnfoldsLines, same_stop, same_line, UnfoldsCode, same_code, UnfoldsBranch, same_way, same_value}
use Rattle.unfolded_calls.specs.SendsOnly.{SendsOnly, AllSendOnly, MessagesOnly, StatementsSendOnly}
use Rattle.unfolded_calls.specs.SameContexts.{same_local_at, same_locals, IsOutside, IsSame}

-- all temporaries stay
pub staying-all : (n : ℕ) → staying (replicate n shared) ≡ n
staying-all zero = refl
staying-all (suc n) = ap suc (staying-all n)

pub locals-append : (xs ys : List Declared) (k : ℕ) → same_locals (xs ++ ys) k ≡ same_locals xs k ++ same_locals ys (length xs + k)
locals-append [] ys k = ap (same_locals ys) (none k)
  where
    none : (k : ℕ) → k ≡ 0 + k
    none k = omega arith
locals-append (x ∷ xs) ys k = ap (λ l. same_local_at x.is_temporary k ∷ l) (locals-append xs ys (suc k) ∙ ap (λ n. same_locals xs (suc k) ++ same_locals ys n) (next (length xs) k))
  where
    next : (n k : ℕ) → n + suc k ≡ suc n + k
    next n k = omega arith

pub locals-arguments : (ps : List Name) (k : ℕ) → same_locals (map as_argument ps) k ≡ arguments_from (length ps) k
locals-arguments [] k = refl
locals-arguments (p ∷ ps) k = ap (λ l. an_argument k ∷ l) (locals-arguments ps (suc k))

pub locals-temporaries : (ts : List Name) (k : ℕ) → same_locals (map as_temporary ts) k ≡ temporaries_from (replicate (length ts) shared) k
locals-temporaries [] k = refl
locals-temporaries (t ∷ ts) k = ap (λ l. a_temporary k ∷ l) (locals-temporaries ts (suc k))

pub moved-one : (b : Bool) (n k : ℕ) → moved n (same_local_at b k) ≡ same_local_at b (n + k)
moved-one true n k = refl
moved-one false n k = refl

pub locals-moved : (env : List Declared) (n k : ℕ) → map (moved n) (same_locals env k) ≡ same_locals env (n + k)
locals-moved [] n k = refl
locals-moved (d ∷ env) n k = (λ j. moved-one d.is_temporary n k j ∷ locals-moved env n (suc k) j) ∙ ap (λ x. same_local_at d.is_temporary (n + k) ∷ same_locals env x) (next n k)
  where
    next : (n k : ℕ) → n + suc k ≡ suc (n + k)
    next n k = omega arith

pub farther-one : (b : Bool) (k : ℕ) → farther (same_local_at b k) ≡ same_local_at b k
farther-one true k = refl
farther-one false k = refl

pub locals-farther : (env : List Declared) (k : ℕ) → map farther (same_locals env k) ≡ same_locals env k
locals-farther [] k = refl
locals-farther (d ∷ env) k = λ j. farther-one d.is_temporary k j ∷ locals-farther env (suc k) j

pub length-made : (make : Name → Declared) (ns : List Name) → length (map make ns) ≡ length ns
length-made make [] = refl
length-made make (n ∷ ns) = ap suc (length-made make ns)

-- the locals inside a scope
pub locals-opened : (ps ts : List Name) (env : List Declared) →
    (arguments_from (length ps) 0 ++ temporaries_from (replicate (length ts) shared) (length ps)) ++ map (moved (length ps + staying (replicate (length ts) shared))) (same_locals env 0) ≡ same_locals (opened ps ts env) 0
locals-opened ps ts env =
    append_assoc (arguments_from (length ps) 0) (temporaries_from (replicate (length ts) shared) (length ps)) (map (moved (length ps + staying (replicate (length ts) shared))) (same_locals env 0))
    ∙ sym (locals-append (map as_argument ps) (map as_temporary ts ++ env) 0
    ∙ (λ j. locals-arguments ps 0 j ++ same_locals (map as_temporary ts ++ env) (first (length-made as_argument ps j)))
    ∙ ap (λ l. arguments_from (length ps) 0 ++ l) rest)
  where
    first : ℕ → ℕ
    first n = n + 0

    behind : (n t : ℕ) → t + (n + 0) ≡ n + t + 0
    behind n t = omega arith

    zero-off : (n : ℕ) → n + 0 ≡ n
    zero-off n = omega arith

    rest : same_locals (map as_temporary ts ++ env) (length ps + 0) ≡ temporaries_from (replicate (length ts) shared) (length ps) ++ map (moved (length ps + staying (replicate (length ts) shared))) (same_locals env 0)
    rest =
        locals-append (map as_temporary ts) env (length ps + 0)
        ∙ (λ j. (locals-temporaries ts (length ps + 0) ∙ ap (temporaries_from (replicate (length ts) shared)) (zero-off (length ps))) j ++ same_locals env ((ap (λ n. n + (length ps + 0)) (length-made as_temporary ts ∙ sym (staying-all (length ts))) ∙ behind (length ps) (staying (replicate (length ts) shared))) j))
        ∙ ap (λ l. temporaries_from (replicate (length ts) shared) (length ps) ++ l) (sym (locals-moved env (length ps + staying (replicate (length ts) shared)) 0))

-- the declaration of a name stands at its place
pub local-at : (env : List Declared) (n : Name) (b : Bool) (k : ℕ) → kind_in env n ≡ Some b → slice_get (same_locals env k) (place_in env n) ≡ Some (same_local_at b (k + place_in env n))
local-at [] n b k e = absurd (cc)
local-at (d ∷ env) n b k e = by (local-at env n b (suc k)) (text_eq n d.name) e
  where
    next : (k p : ℕ) → suc k + p ≡ k + (1 + p)
    next k p = omega arith

    zero-off : (n : ℕ) → n ≡ n + 0
    zero-off n = omega arith

    some : {x y : Bool} → Some x ≡ Some y → x ≡ y
    some z = cc

    by : (kind_in env n ≡ Some b → slice_get (same_locals env (suc k)) (place_in env n) ≡ Some (same_local_at b (suc k + place_in env n))) → (c : Bool) →
        option_map (λ (d : Declared). d.is_temporary) (cond c (Some d) (find (λ (d : Declared). text_eq n d.name) env)) ≡ Some b →
        slice_get (same_locals (d ∷ env) k) (cond (not c) (1 + place_in env n) 0) ≡ Some (same_local_at b (k + cond (not c) (1 + place_in env n) 0))
    by ih true q = λ j. Some (same_local_at (some q j) (zero-off k j))
    by ih false q = ap (slice_get (same_locals (d ∷ env) k)) (one-add (place_in env n)) ∙ ih q ∙ ap (λ x. Some (same_local_at b x)) (next k (place_in env n))

or-outside : (o p : Option (MeaningOf Name)) → OptionNames IsOutside o → OptionNames IsOutside p → OptionNames IsOutside (option_or o p)
or-outside (Some m) p h k = h
or-outside None p h k = k

given-outside : {X : Type 0} (f : X → MeaningOf Name) → ((x : X) → IsOutside (f x)) → (o : Option X) → OptionNames IsOutside (option_map f o)
given-outside f h (Some x) = h x
given-outside f h None = tt

pub means-outside : (classes above : List (ClassOf Name)) (meta : Bool) (n : Name) → IsOutside (means_along text_words classes above meta n)
means-outside classes above meta n =
    let one = as_variable text_words.tests.same (side_kind meta) above n in
    let two = as_variable text_words.tests.same of_class above n in
    let three : Option (MeaningOf Name) = option_map (λ (c : ClassOf Name). a_class c.name) (class_named text_words.tests.same classes n) in
    let four : Option (MeaningOf Name) = if text_words.is_transcript n then Some transcript else None in
    by (option_or one (option_or two (option_or three four)))
    (or-outside one (option_or two (option_or three four)) (given-outside (λ (c : ClassOf Name). variable (side_kind meta) c.name) (λ c. tt) (definer text_words.tests.same (side_kind meta) above n))
    (or-outside two (option_or three four) (given-outside (λ (c : ClassOf Name). variable of_class c.name) (λ c. tt) (definer text_words.tests.same of_class above n))
    (or-outside three four (given-outside (λ (c : ClassOf Name). a_class c.name) (λ c. tt) (class_named text_words.tests.same classes n)) (if-outside (text_words.is_transcript n)))))
  where
    by : (o : Option (MeaningOf Name)) → OptionNames IsOutside o → IsOutside (unwrap_or o undeclared)
    by (Some m) h = h
    by None h = tt

    if-outside : (b : Bool) → OptionNames IsOutside (if b then Some transcript else None)
    if-outside true = tt
    if-outside false = tt

module _ (i : ResolvedImage) (gone : Allowed) (outer : Name → MeaningOf Name) (outside : (n : Name) → IsOutside (outer n)) where
  abbrev Kept : Name → Type 0
  Kept s = gone.is_gone s ≡ false

  pub same-scoped : (g : Context) (env : List Declared) (ps ts : List Name) → IsSame g env → IsSame (scoped (length ps) (replicate (length ts) shared) g) (opened ps ts env)
  same-scoped g env ps ts h = record {
    locals = ap (λ l. (arguments_from (length ps) 0 ++ temporaries_from (replicate (length ts) shared) (length ps)) ++ map (moved (length ps + staying (replicate (length ts) shared))) l) h.locals ∙ locals-opened ps ts env;
    returns = h.returns;
    supers = h.supers;
  }

  pub same-closed : (g : Context) (env : List Declared) → IsSame g env → IsSame (in_closure g) env
  same-closed g env h = record { locals = ap (map farther) h.locals ∙ locals-farther env 0; returns = h.returns; supers = h.supers }

  -- a local
  pub local-same : (g : Context) (env : List Declared) (n : Name) (b : Bool) → IsSame g env → kind_in env n ≡ Some b → Unfolds i gone g (reading (of_local (place_in env n))) (reading (of_local (place_in env n)))
  local-same g env n b h e = by b (ap (λ l. slice_get l (place_in env n)) h.locals ∙ local-at env n b 0 e ∙ ap (λ k. Some (same_local_at b k)) (none (place_in env n)))
    where
      none : (k : ℕ) → 0 + k ≡ k
      none k = omega arith

      by : (b : Bool) → slice_get g.locals (place_in env n) ≡ Some (same_local_at b (place_in env n)) → Unfolds i gone g (reading (of_local (place_in env n))) (reading (of_local (place_in env n)))
      by true q = same_local (place_in env n) (a_temporary (place_in env n)) q tt
      by false q = same_local (place_in env n) (an_argument (place_in env n)) q tt

  -- what is no local
  pub outer-same : (g : Context) (m : MeaningOf Name) (k : ℕ) (n : Name) → IsOutside m → Unfolds i gone g (reading (reference_of m k n)) (reading (reference_of m k n))
  outer-same g pseudo k n t = same_reading _ tt
  outer-same g (argument scope) k n t = absurd t
  outer-same g (temporary scope) k n t = absurd t
  outer-same g (variable of_instance c) k n t = same_reading _ tt
  outer-same g (variable of_class_side c) k n t = same_reading _ tt
  outer-same g (variable of_class c) k n t = same_reading _ tt
  outer-same g (a_class c) k n t = same_reading _ tt
  outer-same g transcript k n t = same_reading _ tt
  outer-same g undeclared k n t = same_reading _ tt

  pub outer-target : (m : MeaningOf Name) (k : ℕ) (n : Name) → IsOutside m → IsOuterTarget (target_of m k n)
  outer-target pseudo k n t = tt
  outer-target (argument scope) k n t = absurd t
  outer-target (temporary scope) k n t = absurd t
  outer-target (variable of_instance c) k n t = tt
  outer-target (variable of_class_side c) k n t = tt
  outer-target (variable of_class c) k n t = tt
  outer-target (a_class c) k n t = tt
  outer-target transcript k n t = tt
  outer-target undeclared k n t = tt

  pub reading-same : (g : Context) (env : List Declared) (n : Name) → IsSame g env → Unfolds i gone g (reading (reference_in env (outer n) n)) (reading (reference_in env (outer n) n))
  reading-same g env n h = by (is_pseudo_variable n) (kind_in env n) refl
    where
      by : (b : Bool) (o : Option Bool) → kind_in env n ≡ o → Unfolds i gone g (reading (if b then of_word n else reference_by o (place_in env n) (outer n) n)) (reading (if b then of_word n else reference_by o (place_in env n) (outer n) n))
      by true o e = same_reading (of_word n) tt
      by false (Some b) e = local-same g env n b h e
      by false None e = outer-same g (outer n) (place_in env n) n (outside n)

  pub assigning-same : (g : Context) (env : List Declared) (n : Name) {t t' : ResolvedTree} → IsSame g env → Unfolds i gone g t t' → Unfolds i gone g (assigning (target_in env (outer n) n) t) (assigning (target_in env (outer n) n) t')
  assigning-same g env n {t} {t'} h r = by (is_pseudo_variable n) (kind_in env n) refl
    where
      none : (k : ℕ) → 0 + k ≡ k
      none k = omega arith

      by : (b : Bool) (o : Option Bool) → kind_in env n ≡ o → Unfolds i gone g (assigning (if b then to_fixed n else target_by o (place_in env n) (outer n) n) t) (assigning (if b then to_fixed n else target_by o (place_in env n) (outer n) n) t')
      by true o e = same_assignment (to_fixed n) tt r
      by false (Some true) e = same_temporary (place_in env n) (place_in env n) (ap (λ l. slice_get l (place_in env n)) h.locals ∙ local-at env n true 0 e ∙ ap (λ k. Some (a_temporary k)) (none (place_in env n))) r
      by false (Some false) e = same_assignment (to_fixed n) tt r
      by false None e = same_assignment (target_of (outer n) (place_in env n) n) (outer-target (outer n) (place_in env n) n (outside n)) r

  -- a shape whose blocks unfold to themselves
  data ShapeSame (g : Context) : ResolvedShape → Type 0 where
    message_same : ShapeSame g as_message
    choice_same : {a b : ResolvedBranch} → UnfoldsBranch i gone g a a → UnfoldsBranch i gone g b b → ShapeSame g (chooses_way a b)
    loop_same : {sense : Bool} {a b : ResolvedCode} → UnfoldsCode i gone g a a → UnfoldsCode i gone g b b → ShapeSame g (repeats sense a b)

  -- a block that may be run in place
  abbrev CodeSame : Context → Option ResolvedCode → Type 0
  CodeSame g o = OptionNames (λ c. UnfoldsCode i gone g c c) o

  -- the blocks of arguments
  data CodesSame (g : Context) : ResolvedTrees → Type 0 where
    no_codes : CodesSame g no_nodes
    more_codes : {t : ResolvedTree} {ts : ResolvedTrees} → CodeSame g (plain_code t) → CodesSame g ts → CodesSame g (more_nodes t ts)

  if-shape : {g : Context} (b : Bool) {x y : ResolvedShape} → ShapeSame g x → ShapeSame g y → ShapeSame g (if b then x else y)
  if-shape true p q = p
  if-shape false p q = q

  one-same : {g : Context} {args : ResolvedTrees} → CodesSame g args → CodeSame g (one_code args)
  one-same no_codes = tt
  one-same (more_codes p no_codes) = p
  one-same (more_codes p (more_codes q r)) = tt

  shape-of : {g : Context} {X : Type 0} (P : X → Type 0) (go : X → ResolvedShape) (o : Option X) → OptionNames P o → ((x : X) → P x → ShapeSame g (go x)) → ShapeSame g (unwrap_or (option_map go o) as_message)
  shape-of P go (Some x) p h = h x p
  shape-of P go None p h = message_same

  two-same : {g : Context} {args : ResolvedTrees} → CodesSame g args → OptionNames (λ (p : ResolvedCode × ResolvedCode). UnfoldsCode i gone g p.0 p.0 × UnfoldsCode i gone g p.1 p.1) (two_codes args)
  two-same no_codes = tt
  two-same {g} (more_codes {t = t} {ts = ts} p q) = by (plain_code t) (one_code ts) p (one-same q)
    where
      by : (a b : Option ResolvedCode) → CodeSame g a → CodeSame g b → OptionNames (λ (p : ResolvedCode × ResolvedCode). UnfoldsCode i gone g p.0 p.0 × UnfoldsCode i gone g p.1 p.1) (option_and_then (λ x. option_map (λ y. (x, y)) b) a)
      by (Some a) (Some b) p q = (p, q)
      by (Some a) None p q = tt
      by None b p q = tt

  shape-same : {g : Context} (s : Name) (r : ResolvedTree) (args : ResolvedTrees) → CodeSame g (plain_code r) → CodesSame g args → ShapeSame g (resolved_shape s r args)
  unfolding resolved_shape
  shape-same {g} s r args p q =
      if-shape (text_eq s (codes "ifTrue:")) (shape-of _ _ (one_code args) (one-same q) (λ c h. choice_same (same_way h) (same_value _)))
      (if-shape (text_eq s (codes "ifFalse:")) (shape-of _ _ (one_code args) (one-same q) (λ c h. choice_same (same_value _) (same_way h)))
      (if-shape (text_eq s (codes "ifTrue:ifFalse:")) (shape-of _ _ (two_codes args) (two-same q) (λ c h. choice_same (same_way h.0) (same_way h.1)))
      (if-shape (text_eq s (codes "ifFalse:ifTrue:")) (shape-of _ _ (two_codes args) (two-same q) (λ c h. choice_same (same_way h.1) (same_way h.0)))
      (if-shape (text_eq s (codes "and:")) (shape-of _ _ (one_code args) (one-same q) (λ c h. choice_same (same_way h) (same_value _)))
      (if-shape (text_eq s (codes "or:")) (shape-of _ _ (one_code args) (one-same q) (λ c h. choice_same (same_value _) (same_way h)))
      (if-shape (text_eq s (codes "whileTrue:")) (repeat true)
      (if-shape (text_eq s (codes "whileFalse:")) (repeat false) message_same)))))))
    where
      repeat : (sense : Bool) → ShapeSame g (with_repeat r args sense)
      repeat sense = shape-of _ _ (plain_code r) p (λ a h. shape-of _ _ (one_code args) (one-same q) (λ b k. loop_same h k))

  -- a send that is the same
  sending-same : {g : Context} {s : Name} {r : ResolvedTree} {args : ResolvedTrees} → g.supers ≡ true → gone.is_gone s ≡ false → Unfolds i gone g r r → UnfoldsAll i gone g args args → CodeSame g (plain_code r) → CodesSame g args → Unfolds i gone g (sending r s args) (sending r s args)
  sending-same {g} {s} {r} {args} sup kept p ps c cs = by (resolved_shape s r args) refl (shape-same s r args c cs)
    where
      by : (x : ResolvedShape) → resolved_shape s r args ≡ x → ShapeSame g x → Unfolds i gone g (sending r s args) (sending r s args)
      by x e message_same = same_message e e kept (λ z. sup) p ps
      by x e (choice_same {a = a} {b = b} q h) = same_choice a a b b e e p q h
      by x e (loop_same {sense = sense} {a = a} {b = b} q h) = same_loop sense a a b b e e q h

  mutual
    tree-same : (g : Context) (env : List Declared) (t : TreeOf Name) → IsSame g env → SendsOnly Kept t → Unfolds i gone g (tree_in outer env t) (tree_in outer env t)
    tree-same g env (var n) h k = reading-same g env n h
    tree-same g env (literal l) h k = same_constant l
    tree-same g env (send r s args) h k = sending-same h.supers k.0 (tree-same g env r h k.1) (trees-same g env args h k.2) (plain-same g env r h k.1) (plains-same g env args h k.2)
    tree-same g env (cascade r ms) h k = same_cascade (tree-same g env r h k.0) (messages-same g env ms h k.1)
    tree-same g env (assign n t) h k = assigning-same g env n h (tree-same g env t h k)
    tree-same g env (block ps ts ss e) h k =
        subst (λ n. Unfolds i gone g (block_of (length ps) (length ts) (statements_in outer (opened ps ts env) ss)) (block_of (length ps) n (statements_in outer (opened ps ts env) ss))) (staying-all (length ts))
        (subst (λ n. Unfolds i gone g (block_of (length ps) n (statements_in outer (opened ps ts env) ss)) (block_of (length ps) (staying (replicate (length ts) shared)) (statements_in outer (opened ps ts env) ss))) (length-replicate (length ts) shared)
        (same_block (length ps) (replicate (length ts) shared) (lines-same (scoped (length ps) (replicate (length ts) shared) (in_closure g)) (opened ps ts env) ss (same-scoped (in_closure g) env ps ts (same-closed g env h)) k)))
    tree-same g env (brace ts) h k = same_brace (trees-same g env ts h k)
    tree-same g env (return t) h k = same_return h.returns (tree-same g env t h k)

    trees-same : (g : Context) (env : List Declared) (ts : TreesOf Name) → IsSame g env → AllSendOnly Kept ts → UnfoldsAll i gone g (trees_in outer env ts) (trees_in outer env ts)
    trees-same g env no_trees h k = same_none
    trees-same g env (more_trees t ts) h k = same_more (tree-same g env t h k.0) (trees-same g env ts h k.1)

    messages-same : (g : Context) (env : List Declared) (ms : MessagesOf Name) → IsSame g env → MessagesOnly Kept ms → UnfoldsMessages i gone g (messages_in outer env ms) (messages_in outer env ms)
    messages-same g env no_messages h k = same_end
    messages-same g env (more_messages s args ms) h k = same_next s k.0 (trees-same g env args h k.1) (messages-same g env ms h k.2)

    lines-same : (g : Context) (env : List Declared) (ss : StatementsOf Name) → IsSame g env → StatementsSendOnly Kept ss → UnfoldsLines i gone g (statements_in outer env ss) (statements_in outer env ss)
    lines-same g env no_statements h k = same_stop
    lines-same g env (more_statements c t ss) h k = same_line (tree-same g env t h k.0) (lines-same g env ss h k.1)

    -- a block without parameters that may be run in place
    plain-same : (g : Context) (env : List Declared) (t : TreeOf Name) → IsSame g env → SendsOnly Kept t → CodeSame g (plain_code (tree_in outer env t))
    plain-same g env (var n) h k = tt
    plain-same g env (literal l) h k = tt
    plain-same g env (send r s args) h k = tt
    plain-same g env (cascade r ms) h k = tt
    plain-same g env (assign n t) h k = tt
    plain-same g env (block [] ts ss e) h k =
        subst (λ n. UnfoldsCode i gone g (record { parameters = 0; temporaries = length ts; statements = statements_in outer (opened [] ts env) ss }) (record { parameters = 0; temporaries = n; statements = statements_in outer (opened [] ts env) ss })) (staying-all (length ts))
        (subst (λ n. UnfoldsCode i gone g (record { parameters = 0; temporaries = n; statements = statements_in outer (opened [] ts env) ss }) (record { parameters = 0; temporaries = staying (replicate (length ts) shared); statements = statements_in outer (opened [] ts env) ss })) (length-replicate (length ts) shared)
        (same_code 0 (replicate (length ts) shared) (lines-same (scoped 0 (replicate (length ts) shared) g) (opened [] ts env) ss (same-scoped g env [] ts h) k)))
    plain-same g env (block (p ∷ ps) ts ss e) h k = tt
    plain-same g env (brace ts) h k = tt
    plain-same g env (return t) h k = tt

    plains-same : (g : Context) (env : List Declared) (ts : TreesOf Name) → IsSame g env → AllSendOnly Kept ts → CodesSame g (trees_in outer env ts)
    plains-same g env no_trees h k = no_codes
    plains-same g env (more_trees t ts) h k = more_codes (plain-same g env t h k.0) (plains-same g env ts h k.1)

  -- a sequence with arguments
  pub code-same : (g : Context) (env : List Declared) (ps : List Name) (b : SequenceOf Name) → IsSame g env → StatementsSendOnly Kept b.statements → UnfoldsCode i gone g (code_in outer env ps b) (code_in outer env ps b)
  code-same g env ps b h k =
      subst (λ n. UnfoldsCode i gone g (record { parameters = length ps; temporaries = length b.temporaries; statements = statements_in outer (opened ps b.temporaries env) b.statements }) (record { parameters = length ps; temporaries = n; statements = statements_in outer (opened ps b.temporaries env) b.statements })) (staying-all (length b.temporaries))
      (subst (λ n. UnfoldsCode i gone g (record { parameters = length ps; temporaries = n; statements = statements_in outer (opened ps b.temporaries env) b.statements }) (record { parameters = length ps; temporaries = staying (replicate (length b.temporaries) shared); statements = statements_in outer (opened ps b.temporaries env) b.statements })) (length-replicate (length b.temporaries) shared)
      (same_code (length ps) (replicate (length b.temporaries) shared) (lines-same (scoped (length ps) (replicate (length b.temporaries) shared) g) (opened ps b.temporaries env) b.statements (same-scoped g env ps b.temporaries h) k)))
