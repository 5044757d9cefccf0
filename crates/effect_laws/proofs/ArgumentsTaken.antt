-- Methods that take one argument more or one less: which names they declare, and what may be assigned in them.
use Rattle.std.proofs.Common.{◌≡◌, ◌⊎◌, inl, inr, ℕ, zero, suc, ◌+◌, ◌-◌, ◌≤◌, Bool, true, false, List, [], ◌∷◌, ◌++◌, length, refl, sym, ap, subst, ◌∙◌, true≢false, arith}
use Rattle.std.specs.Prelude.{◌||◌, if◌then◌else◌, remove}
use Rattle.std.specs.List.{list_any}
use Rattle.std.specs.Str.{bytes_eq}
use Rattle.std.proofs.lemmas.Bool.{or_parts, or_from}
use Rattle.std.proofs.lemmas.List.{length-append}
use Rattle.std.proofs.lemmas.List.Edits.{length-remove}
use Rattle.rb_base.specs.Names.{text_eq}
use Rattle.tree_model.specs.Tree.{TreeOf, var, literal, send, cascade, assign, block, brace, return, TreesOf, no_trees, more_trees, MessagesOf, no_messages, more_messages, StatementsOf, no_statements, more_statements, MethodOf}
use Rattle.tree_model.specs.Path.{count}
use Rattle.tree_model.specs.Nodes.{Placed, tree_nodes, trees_nodes, messages_nodes, statements_nodes, below_step, nodes}
use Rattle.grammar_model.specs.Words.{is_pseudo}
use Rattle.grammar_model.specs.Checks.{Known, is_fixed}
use Rattle.reread_law.specs.WellFormed.{AllWords}
use Rattle.reread_law.specs.Declarations.{repeats, known_names, assigns_fixed, assigns_fixed_trees, assigns_fixed_messages, assigns_fixed_statements}
use Rattle.reread_law.specs.WholeTrees.{WellFormedMethod}
use Rattle.file_model.specs.Filing.{Text}
use Rattle.rename_model.specs.CommandWords.{arity}
use Rattle.rename_model.specs.NamesThere.{is_named_by, is_named_in}
use Rattle.effect_laws.proofs.Items.{In, Once, in_either, once_both, once_front, once_apart}
use Rattle.effect_laws.proofs.Tests.{among, not_among}
use Rattle.effect_laws.proofs.Facts.{text_turned}
use Rattle.effect_laws.proofs.NewNames.{IsNewName}
use Rattle.effect_laws.proofs.Nowhere.{Test, passes, any-deeper, first_fails, both_fail}
use Rattle.effect_laws.proofs.Arities.{pattern_arity, pattern_words}

-- a method of other arguments: there are as many as the new selector takes, no name stands twice, and nothing is assigned that may not be
pub record TakesWell (t : Text) (taken : List Text → List Text) (m : MethodOf Text) : Type 0 where
  pub number : arity t ≡ length (taken m.arguments)
  pub words : AllWords (taken m.arguments)
  pub once : repeats [] (taken m.arguments ++ m.body.temporaries) ≡ false
  pub assigned : assigns_fixed_statements (known_names (taken m.arguments) m.body.temporaries) m.body.statements ≡ false

-- names of which none stands twice
repeats_once : (seen ns : List Text) → repeats seen ns ≡ false → Once ns × ((n : Text) → In ns n → In seen n → ⊥)
repeats_once seen [] h = (tt, λ n k l. k)
repeats_once seen (n ∷ ns) h =
    let p = or_parts (list_any (text_eq n) seen) (repeats (n ∷ seen) ns) h in
    let r = repeats_once (n ∷ seen) ns p.1 in
    (((λ k. r.1 n k (inl refl)), r.0), by p.0 (λ m k l. r.1 m k (inr l)))
  where
    by : list_any (text_eq n) seen ≡ false → ((m : Text) → In ns m → In seen m → ⊥) → (m : Text) → In (n ∷ ns) m → In seen m → ⊥
    by q rest m (inl e) l = not_among n seen q (subst (In seen) (sym e) l)
    by q rest m (inr k) l = rest m k l

none_among : (n : Text) (ns : List Text) → (In ns n → ⊥) → list_any (text_eq n) ns ≡ false
none_among n ns h = by (list_any (text_eq n) ns) refl
  where
    by : (b : Bool) → list_any (text_eq n) ns ≡ b → list_any (text_eq n) ns ≡ false
    by true q = absurd (h (among n ns q))
    by false q = q

once_repeats : (seen ns : List Text) → Once ns → ((n : Text) → In ns n → In seen n → ⊥) → repeats seen ns ≡ false
once_repeats seen [] o apart = refl
once_repeats seen (n ∷ ns) o apart = λ i. none_among n seen (λ k. apart n (inl refl) k) i || once_repeats (n ∷ seen) ns o.1 by i
  where
    by : (m : Text) → In ns m → In (n ∷ seen) m → ⊥
    by m k (inl e) = o.0 (subst (In ns) (sym e) k)
    by m k (inr l) = apart m (inr k) l

-- one of them taken out
remove_in : (ns : List Text) (k : ℕ) (n : Text) → In (remove ns k) n → In ns n
remove_in [] zero n h = h
remove_in [] (suc k) n h = h
remove_in (m ∷ ns) zero n h = inr h
remove_in (m ∷ ns) (suc k) n (inl e) = inl e
remove_in (m ∷ ns) (suc k) n (inr h) = inr (remove_in ns k n h)

once_fewer : (ns : List Text) (k : ℕ) → Once ns → Once (remove ns k)
once_fewer [] zero o = tt
once_fewer [] (suc k) o = tt
once_fewer (n ∷ ns) zero o = o.1
once_fewer (n ∷ ns) (suc k) o = ((λ h. o.0 (remove_in ns k n h)), once_fewer ns k o.1)

words_fewer : (ns : List Text) (k : ℕ) → AllWords ns → AllWords (remove ns k)
words_fewer [] zero w = tt
words_fewer [] (suc k) w = tt
words_fewer (n ∷ ns) zero w = w.1
words_fewer (n ∷ ns) (suc k) w = (w.0, words_fewer ns k w.1)

-- one more at the end
words_more : (ns : List Text) (x : Text) → AllWords ns → AllWords (x ∷ []) → AllWords (ns ++ x ∷ [])
words_more [] x w v = v
words_more (n ∷ ns) x w v = (w.0, words_more ns x w.1 v)

-- the back of a list
once_back : (ns ms : List Text) → Once (ns ++ ms) → Once ms
once_back [] ms o = o
once_back (n ∷ ns) ms o = once_back ns ms o.1

-- a name that stands in neither of two lists may come between them
once_between : (ns ms : List Text) (x : Text) → (In ns x → ⊥) → (In ms x → ⊥) → Once (ns ++ ms) → Once ((ns ++ x ∷ []) ++ ms)
once_between ns ms x a b o =
    once_both (ns ++ x ∷ []) ms (once_both ns (x ∷ []) (once_front ns ms o) ((λ k. k), tt) first) (once_back ns ms o) (λ n h k. second n (in_either ns (x ∷ []) n h) k)
  where
    first : (n : Text) → In ns n → In (x ∷ []) n → ⊥
    first n h (inl e) = a (subst (In ns) (sym e) h)
    first n h (inr k) = k

    second : (n : Text) → In ns n ⊎ In (x ∷ []) n → In ms n → ⊥
    second n (inl h) k = once_apart ns ms o n h k
    second n (inr (inl e)) k = b (subst (In ms) (sym e) k)
    second n (inr (inr h)) k = h

once_taken_out : (ns ms : List Text) (k : ℕ) → Once (ns ++ ms) → Once (remove ns k ++ ms)
once_taken_out ns ms k o = once_both (remove ns k) ms (once_fewer ns k (once_front ns ms o)) (once_back ns ms o) (λ n h l. once_apart ns ms o n (remove_in ns k n h) l)

-- names that may be assigned where some names are known may be where others are, but for names that pass a test
abbrev Loosens : (Text → Bool) → List Known → List Known → Type 0
Loosens bad ks js = (n : Text) → bad n ≡ false → is_fixed ks n ≡ false → is_fixed js n ≡ false

loose_inside : (bad : Text → Bool) (ls ks js : List Known) → Loosens bad ks js → Loosens bad (ls ++ ks) (ls ++ js)
loose_inside bad [] ks js h = h
loose_inside bad (l ∷ ls) ks js h = λ n b e. by n (bytes_eq n l.name) e (loose_inside bad ls ks js h n b)
  where
    by : (n : Text) (c : Bool) → (if c then l.fixed else is_fixed (ls ++ ks) n) ≡ false → (is_fixed (ls ++ ks) n ≡ false → is_fixed (ls ++ js) n ≡ false) → (if c then l.fixed else is_fixed (ls ++ js) n) ≡ false
    by n true e rest = e
    by n false e rest = rest e

-- whether a node assigns a name that passes a test
abbrev assigns_one : (Text → Bool) → TreeOf Text → Bool
assigns_one bad (var n) = false
assigns_one bad (literal l) = false
assigns_one bad (send r u xs) = false
assigns_one bad (cascade r ms) = false
assigns_one bad (assign n r) = bad n
assigns_one bad (block ps ds ss c) = false
assigns_one bad (brace ts) = false
assigns_one bad (return r) = false

module _ (bad : Text → Bool) where
  abbrev tested : Test
  tested path r = assigns_one bad r

  mutual
    tree_loose : (ks js : List Known) (r : TreeOf Text) → Loosens bad ks js → list_any (passes tested) (tree_nodes r) ≡ false → assigns_fixed ks r ≡ false → assigns_fixed js r ≡ false
    tree_loose ks js (var n) l h a = refl
    tree_loose ks js (literal c) l h a = refl
    tree_loose ks js (send r u xs) l h a =
        let k = first_fails tested 0 (tree_nodes r) (trees_nodes 1 xs) h in
        let p = or_parts (assigns_fixed ks r) (assigns_fixed_trees ks xs) a in
        or_from (assigns_fixed js r) (assigns_fixed_trees js xs) (tree_loose ks js r l k.0 p.0) (trees_loose ks js 1 xs l k.1 p.1)
    tree_loose ks js (cascade r ms) l h a =
        let k = first_fails tested 0 (tree_nodes r) (messages_nodes 1 ms) h in
        let p = or_parts (assigns_fixed ks r) (assigns_fixed_messages ks ms) a in
        or_from (assigns_fixed js r) (assigns_fixed_messages js ms) (tree_loose ks js r l k.0 p.0) (messages_loose ks js 1 ms l k.1 p.1)
    tree_loose ks js (assign n r) l h a =
        let k = or_parts (bad n) (list_any (passes tested) (below_step 0 (tree_nodes r))) h in
        let p = or_parts (is_pseudo n || is_fixed ks n) (assigns_fixed ks r) a in
        let q = or_parts (is_pseudo n) (is_fixed ks n) p.0 in
        or_from (is_pseudo n || is_fixed js n) (assigns_fixed js r) (or_from (is_pseudo n) (is_fixed js n) q.0 (l n k.0 q.1)) (tree_loose ks js r l (sym (any-deeper tested 0 (tree_nodes r)) ∙ k.1) p.1)
    tree_loose ks js (block ps ds ss c) l h a = lines_loose (known_names ps ds ++ ks) (known_names ps ds ++ js) 0 ss (loose_inside bad (known_names ps ds) ks js l) h a
    tree_loose ks js (brace ts) l h a = trees_loose ks js 0 ts l h a
    tree_loose ks js (return r) l h a = tree_loose ks js r l (sym (any-deeper tested 0 (tree_nodes r)) ∙ h) a

    trees_loose : (ks js : List Known) (k : ℕ) (xs : TreesOf Text) → Loosens bad ks js → list_any (passes tested) (trees_nodes k xs) ≡ false → assigns_fixed_trees ks xs ≡ false → assigns_fixed_trees js xs ≡ false
    trees_loose ks js k no_trees l h a = refl
    trees_loose ks js k (more_trees x xs) l h a =
        let f = first_fails tested k (tree_nodes x) (trees_nodes (k + 1) xs) h in
        let p = or_parts (assigns_fixed ks x) (assigns_fixed_trees ks xs) a in
        or_from (assigns_fixed js x) (assigns_fixed_trees js xs) (tree_loose ks js x l f.0 p.0) (trees_loose ks js (k + 1) xs l f.1 p.1)

    messages_loose : (ks js : List Known) (k : ℕ) (ms : MessagesOf Text) → Loosens bad ks js → list_any (passes tested) (messages_nodes k ms) ≡ false → assigns_fixed_messages ks ms ≡ false → assigns_fixed_messages js ms ≡ false
    messages_loose ks js k no_messages l h a = refl
    messages_loose ks js k (more_messages u xs ms) l h a =
        let f = both_fail tested (trees_nodes k xs) (messages_nodes (k + count xs) ms) h in
        let p = or_parts (assigns_fixed_trees ks xs) (assigns_fixed_messages ks ms) a in
        or_from (assigns_fixed_trees js xs) (assigns_fixed_messages js ms) (trees_loose ks js k xs l f.0 p.0) (messages_loose ks js (k + count xs) ms l f.1 p.1)

    lines_loose : (ks js : List Known) (k : ℕ) (ss : StatementsOf Text) → Loosens bad ks js → list_any (passes tested) (statements_nodes k ss) ≡ false → assigns_fixed_statements ks ss ≡ false → assigns_fixed_statements js ss ≡ false
    lines_loose ks js k no_statements l h a = refl
    lines_loose ks js k (more_statements c r ss) l h a =
        let f = first_fails tested k (tree_nodes r) (statements_nodes (k + 1) ss) h in
        let p = or_parts (assigns_fixed ks r) (assigns_fixed_statements ks ss) a in
        or_from (assigns_fixed js r) (assigns_fixed_statements js ss) (tree_loose ks js r l f.0 p.0) (lines_loose ks js (k + 1) ss l f.1 p.1)

-- the node that assigns a name has it
named_assigned : (x : Text) (r : TreeOf Text) → is_named_by text_eq x r ≡ false → assigns_one (text_eq x) r ≡ false
named_assigned x (var n) h = refl
named_assigned x (literal l) h = refl
named_assigned x (send r u xs) h = refl
named_assigned x (cascade r ms) h = refl
named_assigned x (assign n r) h = (or_parts (text_eq x n) false h).0
named_assigned x (block ps ds ss c) h = refl
named_assigned x (brace ts) h = refl
named_assigned x (return r) h = refl

unassigned : (x : Text) (es : List (Placed Text)) → list_any (λ e. is_named_by text_eq x e.1) es ≡ false → list_any (passes (λ path r. assigns_one (text_eq x) r)) es ≡ false
unassigned x [] h = refl
unassigned x (e ∷ es) h = let p = or_parts (is_named_by text_eq x e.1) (list_any (λ d. is_named_by text_eq x d.1) es) h in λ i. named_assigned x e.1 p.0 i || unassigned x es p.1 i

-- no name passes a test that none does
none_assigned : (r : TreeOf Text) → assigns_one (λ n. false) r ≡ false
none_assigned (var n) = refl
none_assigned (literal l) = refl
none_assigned (send r u xs) = refl
none_assigned (cascade r ms) = refl
none_assigned (assign n r) = refl
none_assigned (block ps ds ss c) = refl
none_assigned (brace ts) = refl
none_assigned (return r) = refl

all_unassigned : (es : List (Placed Text)) → list_any (passes (λ path r. assigns_one (λ n. false) r)) es ≡ false
all_unassigned [] = refl
all_unassigned (e ∷ es) = λ i. none_assigned e.1 i || all_unassigned es i

-- the names that are fixed
fixed_more : (x : Text) (ps ds : List Text) → Loosens (text_eq x) (known_names ps ds) (known_names (ps ++ x ∷ []) ds)
fixed_more x [] ds n b e = ap (λ c. if c then true else is_fixed (known_names [] ds) n) (text_turned n x ∙ b) ∙ e
fixed_more x (p ∷ ps) ds n b e = by (bytes_eq n p) e (fixed_more x ps ds n b)
  where
    by : (c : Bool) → (if c then true else is_fixed (known_names ps ds) n) ≡ false → (is_fixed (known_names ps ds) n ≡ false → is_fixed (known_names (ps ++ x ∷ []) ds) n ≡ false) → (if c then true else is_fixed (known_names (ps ++ x ∷ []) ds) n) ≡ false
    by true q rest = q
    by false q rest = rest q

fixed_fewer : (ps : List Text) (k : ℕ) (ds : List Text) (n : Text) → is_fixed (known_names ps ds) n ≡ false → is_fixed (known_names (remove ps k) ds) n ≡ false
fixed_fewer [] zero ds n e = e
fixed_fewer [] (suc k) ds n e = e
fixed_fewer (p ∷ ps) zero ds n e = by (bytes_eq n p) e
  where
    by : (c : Bool) → (if c then true else is_fixed (known_names ps ds) n) ≡ false → is_fixed (known_names ps ds) n ≡ false
    by true q = absurd (true≢false q)
    by false q = q
fixed_fewer (p ∷ ps) (suc k) ds n e = by (bytes_eq n p) e (fixed_fewer ps k ds n)
  where
    by : (c : Bool) → (if c then true else is_fixed (known_names ps ds) n) ≡ false → (is_fixed (known_names ps ds) n ≡ false → is_fixed (known_names (remove ps k) ds) n ≡ false) → (if c then true else is_fixed (known_names (remove ps k) ds) n) ≡ false
    by true q rest = q
    by false q rest = rest q

module _ (s t : Text) (m : MethodOf Text) (is : s ≡ m.selector) (w : WellFormedMethod false m) where
  taken_before : arity s ≡ length m.arguments
  taken_before = ap arity is ∙ pattern_arity m.selector m.arguments w.pattern

  names_once : Once (m.arguments ++ m.body.temporaries)
  names_once = (repeats_once [] (m.arguments ++ m.body.temporaries) w.body.once).0

  -- one argument more, of a name that the method does not have
  pub takes_more : (x : Text) → arity t ≡ suc (arity s) → IsNewName x → list_any (text_eq x) m.arguments ≡ false → is_named_in text_eq x m.body ≡ false → TakesWell t (λ ns. ns ++ x ∷ []) m
  takes_more x one name free unnamed =
      let parts = or_parts (list_any (text_eq x) m.body.temporaries) (list_any (λ e. is_named_by text_eq x e.1) (nodes m.body)) unnamed in
      let longer = length-append m.arguments (x ∷ []) in
      record {
        number = omega (arith, one, taken_before, longer);
        words = words_more m.arguments x (pattern_words m.selector m.arguments w.pattern) (name.word, tt);
        once = once_repeats [] ((m.arguments ++ x ∷ []) ++ m.body.temporaries) (once_between m.arguments m.body.temporaries x (not_among x m.arguments free) (not_among x m.body.temporaries parts.0) names_once) (λ n k l. l);
        assigned = lines_loose (text_eq x) (known_names m.arguments m.body.temporaries) (known_names (m.arguments ++ x ∷ []) m.body.temporaries) 0 m.body.statements (fixed_more x m.arguments m.body.temporaries) (unassigned x (nodes m.body) parts.1) w.body.assigned;
      }

  -- one argument less
  pub takes_fewer : (k : ℕ) → arity t ≡ arity s - 1 → 1 ≤ k → k ≤ arity s → TakesWell t (λ ns. remove ns (k - 1)) m
  takes_fewer k one low high =
      let shorter = length-remove m.arguments (k - 1) (omega (arith, taken_before, low, high)) in
      record {
        number = omega (arith, one, taken_before, shorter, low, high);
        words = words_fewer m.arguments (k - 1) (pattern_words m.selector m.arguments w.pattern);
        once = once_repeats [] (remove m.arguments (k - 1) ++ m.body.temporaries) (once_taken_out m.arguments m.body.temporaries (k - 1) names_once) (λ n j l. l);
        assigned = lines_loose (λ n. false) (known_names m.arguments m.body.temporaries) (known_names (remove m.arguments (k - 1)) m.body.temporaries) 0 m.body.statements (λ n b e. fixed_fewer m.arguments (k - 1) m.body.temporaries n e) (all_unassigned (nodes m.body)) w.body.assigned;
      }
