-- A sequence that sets a temporary once unfolds to the one without it.
use Rattle.std.proofs.Common.{◌≡◌, ◌≤◌, ℕ, zero, suc, ◌+◌, List, [], ◌∷◌, ◌++◌, length, map, Some, refl, sym, ap, ◌∙◌, subst, arith, append-nil, append_assoc}
use Rattle.std.specs.Prelude.{true, false, slice_get, set, replicate}
use Rattle.std.proofs.lemmas.List.{map-append, length-append, length-replicate}
use Rattle.tree_model.specs.Tree.{block, StatementsOf, more_statements, SequenceOf, Notes}
use Rattle.scope_model.specs.SpecialNames.{is_pseudo_variable}
use Rattle.image_model.specs.Means.{MeaningOf}
use Rattle.run_model.specs.Values.{Name}
use Rattle.resolved_model.specs.ResolvedTrees.{assigning, block_of, more_lines}
use Rattle.resolved_model.specs.ResolvedImages.{ResolvedImage}
use Rattle.resolved_model.specs.ResolvedShapes.{plain_code}
use Rattle.resolved_model.specs.Environments.{Declared, as_argument, as_temporary, opened, kind_in, place_in, tree_in, statements_in, code_in}
use Rattle.unfolded_calls.specs.Unfolding.{Allowed, Mode, shared, dropped, staying, StandIn, a_temporary, a_dropped, a_nothing, moved, staying_in, arguments_from, temporaries_from, Context, scoped, in_closure, with_local, Unfolds, same_block, UnfoldsLines, same_line, dropped_line, first_line, UnfoldsCode, same_code}
use Rattle.unfolded_calls.specs.SameContexts.{same_locals, IsOutside, IsSame}
use Rattle.unfolded_calls.proofs.Untouched.{staying-all, locals-append, locals-temporaries, locals-moved, length-made, same-closed}
use Rattle.unfolded_places.proofs.ShapePairs.{CodePair, neither, both}
use Rattle.unfolded_places.proofs.Congruence.{ControlLaw, tree-becomes, lines-become}
use Rattle.unfolded_places.proofs.NamesThere.{known-target}
use Rattle.unfolded_places.proofs.PlainThere.{plain-still}
use Rattle.let_laws.specs.Lets.{without, valued, LetLines, let_later, let_value, let_first, IsLet}
use Rattle.let_laws.proofs.OtherNames.{own-locals, Lets, lets-set, x-kind, x-dropped, lets-between}
use Rattle.let_laws.proofs.Kept.{tree-without, lines-without, kept-without, Valued, kept-valued}
use Rattle.let_laws.proofs.FirstReads.{plain-actual, plain-fixed, reads-first}

-- how many steps down what is set is read
abbrev pub lines-reach : {f : Name → MeaningOf Name} {x : Name} {A B : List Declared} {ss ss' : StatementsOf Name} → LetLines f x A B ss ss' → ℕ
lines-reach (let_later c c' t w p) = lines-reach p
lines-reach (let_value c d e a t ss p w q) = 0
lines-reach (let_first n c d d' e ss w sup p v) = n

-- a local that is set
set-there : (locals : List StandIn) (k : ℕ) (a b : StandIn) → slice_get locals k ≡ Some b → slice_get (set (map staying_in locals) k a) k ≡ Some a
set-there [] k a b e = absurd (cc)
set-there (s ∷ ss) zero a b e = refl
set-there (s ∷ ss) (suc k) a b e = set-there ss k a b e

module _ (control : ControlLaw) (i : ResolvedImage) (gone : Allowed) (f : Name → MeaningOf Name) (outside : (n : Name) → IsOutside (f n)) (kept : (s : Name) → gone.is_gone s ≡ false) where
  -- the statements of the scope
  let-lines : (x : Name) (A B : List Declared) (g : Context) (ss ss' : StatementsOf Name) → is_pseudo_variable x ≡ false → kind_in A x ≡ Some true → Lets x g A B → slice_get g.locals (place_in A x) ≡ Some a_dropped → (p : LetLines f x A B ss ss') → lines-reach p ≤ gone.reach →
      UnfoldsLines i gone g (statements_in f A ss) (statements_in f B ss')
  let-lines x A B g _ _ proper kind h at (let_later {ss = ss} {ss' = ss'} c c' t w p) le =
      same_line (tree-becomes control i gone (without x) f f (Lets x) (kept-without control i gone f outside x kept) g A B t t h (tree-without x A B t w)) (let-lines x A B g ss ss' proper kind h at p le)
  let-lines x A B g _ _ proper kind h at (let_value {ss' = ss'} c d e a t ss p w q) le =
      subst (λ y. UnfoldsLines i gone g (more_lines (assigning y (tree_in f A e)) (more_lines (tree_in f A t) (statements_in f A ss))) (statements_in f B ss')) (sym (known-target A (f x) x (Some true) proper kind))
      (dropped_line (place_in A x) a at (plain-actual f x g A B e a h w p) (plain-fixed f x B e a p)
      (lines-become control i gone (valued x e A B) f f (Valued control i gone f outside x kept proper e a A B p kind) (kept-valued control i gone f outside x kept proper e a A B p kind) (with_local (place_in A x) a g) A B (more_statements d t ss) ss'
      (record {
        lets = lets-set x g A B a kind h;
        inner = [];
        before = refl;
        after = refl;
        here = ap (slice_get (set (map staying_in g.locals) (place_in A x) a)) (none (place_in A x)) ∙ set-there g.locals (place_in A x) a a_dropped at ∙ ap Some (sym (plain-still f B e a p));
      }) q))
    where
      none : (k : ℕ) → 0 + k ≡ k
      none k = omega arith
  let-lines x A B g _ _ proper kind h at (let_first {t = t} {t' = t'} n c d d' e ss w sup p v) le =
      subst (λ y. UnfoldsLines i gone g (more_lines (assigning y (tree_in f A e)) (more_lines (tree_in f A t) (statements_in f A ss))) (more_lines (tree_in f B t') (statements_in f B ss))) (sym (known-target A (f x) x (Some true) proper kind))
      (first_line (place_in A x) n at (tree-becomes control i gone (without x) f f (Lets x) (kept-without control i gone f outside x kept) g A B e e h (tree-without x A B e w)) le
      (reads-first control i gone f outside x kept proper (with_local (place_in A x) a_nothing g) A B (lets-set x g A B a_nothing kind h) kind e sup p)
      (lines-become control i gone (without x) f f (Lets x) (kept-without control i gone f outside x kept) (with_local (place_in A x) a_nothing g) A B ss ss (lets-set x g A B a_nothing kind h) (lines-without x A B ss v)))

  -- what becomes of the temporaries
  abbrev modes : ℕ → ℕ → List Mode
  modes m l = replicate m shared ++ dropped ∷ replicate l shared

  modes-count : (front back : List Name) (x : Name) → length (modes (length front) (length back)) ≡ length (front ++ x ∷ back)
  modes-count [] back x = ap suc (length-replicate (length back) shared)
  modes-count (t ∷ front) back x = ap suc (modes-count front back x)

  modes-stay : (front back : List Name) → staying (modes (length front) (length back)) ≡ length (front ++ back)
  modes-stay [] back = staying-all (length back)
  modes-stay (t ∷ front) back = ap suc (modes-stay front back)

  modes-from : (m l k : ℕ) → temporaries_from (modes m l) k ≡ temporaries_from (replicate m shared) k ++ a_dropped ∷ temporaries_from (replicate l shared) (m + k)
  modes-from zero l k = ap (λ j. a_dropped ∷ temporaries_from (replicate l shared) j) (none k)
    where
      none : (k : ℕ) → k ≡ 0 + k
      none k = omega arith
  modes-from (suc m) l k = ap (λ r. a_temporary k ∷ r) (modes-from m l (suc k) ∙ ap (λ j. temporaries_from (replicate m shared) (suc k) ++ a_dropped ∷ temporaries_from (replicate l shared) j) (next m k))
    where
      next : (m k : ℕ) → m + suc k ≡ suc m + k
      next m k = omega arith

  -- the declarations of a scope in two parts
  front-count : (ps front : List Name) → length (opened ps front []) ≡ length ps + length front
  front-count ps front =
      length-append (map as_argument ps) (map as_temporary front ++ []) ∙ (λ j. length-made as_argument ps j + (length-append (map as_temporary front) [] ∙ ap (λ n. n + 0) (length-made as_temporary front) ∙ none (length front)) j)
    where
      none : (k : ℕ) → k + 0 ≡ k
      none k = omega arith

  opened-apart : (ps front ts : List Name) (around : List Declared) → opened ps (front ++ ts) around ≡ opened ps front [] ++ opened [] ts around
  opened-apart ps front ts around =
      ap (λ l. map as_argument ps ++ l) (ap (λ l. l ++ around) (map-append as_temporary front ts) ∙ append_assoc (map as_temporary front) (map as_temporary ts) around ∙ ap (λ l. l ++ (map as_temporary ts ++ around)) (sym (append-nil (map as_temporary front))))
      ∙ sym (append_assoc (map as_argument ps) (map as_temporary front ++ []) (map as_temporary ts ++ around))

  -- the locals there
  locals-so : (ps front back : List Name) (around : List Declared) →
      (arguments_from (length ps) 0 ++ temporaries_from (modes (length front) (length back)) (length ps)) ++ map (moved (length ps + staying (modes (length front) (length back)))) (same_locals around 0)
      ≡ same_locals (opened ps front []) 0 ++ a_dropped ∷ same_locals (opened [] back around) (length (opened ps front []))
  locals-so ps front back around =
      ap (λ l. (arguments_from (length ps) 0 ++ l) ++ outer) (modes-from (length front) (length back) (length ps))
      ∙ ap (λ l. l ++ outer) (sym (append_assoc (arguments_from (length ps) 0) (temporaries_from (replicate (length front) shared) (length ps)) (a_dropped ∷ behind)))
      ∙ append_assoc (arguments_from (length ps) 0 ++ temporaries_from (replicate (length front) shared) (length ps)) (a_dropped ∷ behind) outer
      ∙ (λ j. own-locals ps front j ++ a_dropped ∷ rest j)
    where
      outer : List StandIn
      outer = map (moved (length ps + staying (modes (length front) (length back)))) (same_locals around 0)

      behind : List StandIn
      behind = temporaries_from (replicate (length back) shared) (length front + length ps)

      swapped : (n m : ℕ) → n + m ≡ m + n
      swapped n m = omega arith

      sum : (p m l : ℕ) → (p + (m + l)) + 0 ≡ l + (p + m)
      sum p m l = omega arith

      count : length ps + staying (modes (length front) (length back)) ≡ length ps + (length front + length back)
      count = ap (λ n. length ps + n) (modes-stay front back ∙ length-append front back)

      rest : behind ++ outer ≡ same_locals (opened [] back around) (length (opened ps front []))
      rest =
          (λ j. temporaries_from (replicate (length back) shared) ((swapped (length front) (length ps) ∙ sym (front-count ps front)) j) ++ (locals-moved around (length ps + staying (modes (length front) (length back))) 0
          ∙ ap (same_locals around) (ap (λ n. n + 0) count ∙ sum (length ps) (length front) (length back) ∙ (λ j. sym (length-made as_temporary back) j + sym (front-count ps front) j))) j)
          ∙ ap (λ l. l ++ same_locals around (length (map as_temporary back) + length (opened ps front []))) (sym (locals-temporaries back (length (opened ps front []))))
          ∙ sym (locals-append (map as_temporary back) around (length (opened ps front [])))

  -- the statements of the scope, where nothing round it changes
  module _ (around : List Declared) (ps : List Name) (b b' : SequenceOf Name) (l : IsLet f around ps b b') (le : lines-reach l.lines ≤ gone.reach) where
    abbrev ms : List Mode
    ms = modes (length l.front) (length l.back)

    scope-lines : (g : Context) → IsSame g around → UnfoldsLines i gone (scoped (length ps) ms g) (statements_in f (opened ps b.temporaries around) b.statements) (statements_in f (opened ps b'.temporaries around) b'.statements)
    scope-lines g h =
        subst (λ E. UnfoldsLines i gone (scoped (length ps) ms g) (statements_in f E b.statements) (statements_in f (opened ps b'.temporaries around) b'.statements)) (sym (ap (λ ts. opened ps ts around) l.before ∙ opened-apart ps l.front (l.temporary ∷ l.back) around))
        (subst (λ E. UnfoldsLines i gone (scoped (length ps) ms g) (statements_in f With b.statements) (statements_in f E b'.statements)) (sym (ap (λ ts. opened ps ts around) l.after ∙ opened-apart ps l.front l.back around))
        (let-lines l.temporary With (xs ++ ys) (scoped (length ps) ms g) b.statements b'.statements l.proper (x-kind l.temporary xs ys l.alone) (lets-between l.temporary xs ys l.alone (scoped (length ps) ms g) here h.returns h.supers) (x-dropped l.temporary xs ys l.alone (scoped (length ps) ms g) here) l.lines le))
      where
        xs : List Declared
        xs = opened ps l.front []

        ys : List Declared
        ys = opened [] l.back around

        With : List Declared
        With = xs ++ as_temporary l.temporary ∷ ys

        here : (scoped (length ps) ms g).locals ≡ same_locals xs 0 ++ a_dropped ∷ same_locals ys (length xs)
        here = ap (λ o. (arguments_from (length ps) 0 ++ temporaries_from ms (length ps)) ++ map (moved (length ps + staying ms)) o) h.locals ∙ locals-so ps l.front l.back around

    count-before : length ms ≡ length b.temporaries
    count-before = modes-count l.front l.back l.temporary ∙ ap length (sym l.before)

    count-after : staying ms ≡ length b'.temporaries
    count-after = modes-stay l.front l.back ∙ ap length (sym l.after)

    -- as code
    pub let-code : (g : Context) → IsSame g around → UnfoldsCode i gone g (code_in f around ps b) (code_in f around ps b')
    let-code g h =
        subst (λ n. UnfoldsCode i gone g (record { parameters = length ps; temporaries = n; statements = statements_in f (opened ps b.temporaries around) b.statements }) (code_in f around ps b')) count-before
        (subst (λ n. UnfoldsCode i gone g (record { parameters = length ps; temporaries = length ms; statements = statements_in f (opened ps b.temporaries around) b.statements }) (record { parameters = length ps; temporaries = n; statements = statements_in f (opened ps b'.temporaries around) b'.statements })) count-after
        (same_code (length ps) ms (scope-lines g h)))

    -- as a block
    pub let-block : (g : Context) (e e' : Notes) → IsSame g around → Unfolds i gone g (tree_in f around (block ps b.temporaries b.statements e)) (tree_in f around (block ps b'.temporaries b'.statements e'))
    let-block g e e' h =
        subst (λ n. Unfolds i gone g (block_of (length ps) n (statements_in f (opened ps b.temporaries around) b.statements)) (block_of (length ps) (length b'.temporaries) (statements_in f (opened ps b'.temporaries around) b'.statements))) count-before
        (subst (λ n. Unfolds i gone g (block_of (length ps) (length ms) (statements_in f (opened ps b.temporaries around) b.statements)) (block_of (length ps) n (statements_in f (opened ps b'.temporaries around) b'.statements))) count-after
        (same_block (length ps) ms (scope-lines (in_closure g) (same-closed i gone f outside g around h))))

  -- as a block that may be run in place
  pub let-pair : (around : List Declared) (ps : List Name) (b b' : SequenceOf Name) (l : IsLet f around ps b b') → lines-reach l.lines ≤ gone.reach → (g : Context) (e e' : Notes) → IsSame g around →
      CodePair i gone g (plain_code (tree_in f around (block ps b.temporaries b.statements e))) (plain_code (tree_in f around (block ps b'.temporaries b'.statements e')))
  let-pair around [] b b' l le g e e' h = both (let-code around [] b b' l le g h)
  let-pair around (p ∷ ps) b b' l le g e e' h = neither
