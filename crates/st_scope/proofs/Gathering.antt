-- Names that are gathered, each once.
use Rattle.std.proofs.Common.{◌≡◌, refl, sym, ◌∙◌, ap, ℕ, suc, ◌+◌, Bool, true, false, not, cond, ◌&&◌, ◌||◌, if◌then◌else◌, List, [], ◌∷◌, ◌++◌, length, get_or, take, drop, append_assoc, add-one, drop-cons, ◌<◌}
use Rattle.std.specs.Prelude.{filter, nat_eq}
use Rattle.std.proofs.lemmas.Bool.{eqb-true, eqb-false, eq-eqb, ne_eqb}
use Rattle.std.proofs.lemmas.List.Elements.{filter-append}
use Rattle.std.proofs.lemmas.List.Folds.{list_any-append}
use Rattle.std.proofs.lemmas.List.{append-nil}
use Rattle.std.proofs.Math.Seq.{take-append_seam}
use Rattle.scope_model.specs.Scope.{is_among, declares}
use Rattle.scope_model.specs.FreeNames.{each_once, free_occurrences, free_in_trees, free_in_messages, free_in_statements}
use Rattle.tree_model.specs.Tree.{Notes, TreeOf, block, trees_of}
use Rattle.st_tree.specs.View.{messages_of, statements_of}
use Rattle.st_tree.specs.declared.tree.Message.{Message}
use Rattle.st_tree.specs.declared.tree.Statement.{Statement}
use Rattle.st_scope.specs.NameLists.{with_name, with_names, ordinary, gathered}

-- `or` with false, `and` with false, and three in a row
or-false : (b : Bool) → (b || false) ≡ b
or-false true = refl
or-false false = refl

and-false : (b : Bool) → (b && false) ≡ false
and-false true = refl
and-false false = refl

or-assoc : (a b c : Bool) → ((a || b) || c) ≡ (a || (b || c))
or-assoc true b c = refl
or-assoc false b c = refl

-- one list after the other
with_names-append : (ns ks ls : List ℕ) → with_names ns (ks ++ ls) ≡ with_names (with_names ns ks) ls
with_names-append ns [] ls = refl
with_names-append ns (k ∷ ks) ls = with_names-append (with_name ns k) ks ls

-- what is found in one list and then in another
pub gathered-append : (bound found ks ls : List ℕ) → gathered bound found (ks ++ ls) ≡ gathered bound (gathered bound found ks) ls
gathered-append bound found ks ls =
    ap (with_names found) (filter-append (λ n. not (is_among nat_eq bound n)) ks ls)
    ∙ with_names-append found (filter (λ n. not (is_among nat_eq bound n)) ks) (filter (λ n. not (is_among nat_eq bound n)) ls)

-- one more part of a list
pub gather_more : (before bound bound_after found found_after whole here rest all : List ℕ)
    → (bound ≡ before) × (gathered before found whole ≡ all) → whole ≡ here ++ rest → bound_after ≡ bound → found_after ≡ gathered bound found here
    → (bound_after ≡ before) × (gathered before found_after rest ≡ all)
gather_more before bound bound_after found found_after whole here rest all h w b f = (
  b ∙ h.0,
  ap (λ (fs : List ℕ). gathered before fs rest) (f ∙ ap (λ (bs : List ℕ). gathered bs found here) h.0)
      ∙ sym (gathered-append before found here rest)
      ∙ ap (gathered before found) (sym w)
      ∙ h.1,
)

-- the trees from a number on
pub free_in_trees-drop : (is_pseudo : ℕ → Bool) (ts : List (TreeOf ℕ)) (i : ℕ) (t : TreeOf ℕ) → i < length ts → t ≡ get_or ts i t
    → free_in_trees nat_eq is_pseudo (trees_of (drop i ts)) ≡ free_occurrences nat_eq is_pseudo t ++ free_in_trees nat_eq is_pseudo (trees_of (drop (i + 1) ts))
free_in_trees-drop is_pseudo ts i t h e =
    rw add-one (ap (λ (us : List (TreeOf ℕ)). free_in_trees nat_eq is_pseudo (trees_of us)) (drop-cons ts i t h)
    ∙ ap (λ (u : TreeOf ℕ). free_occurrences nat_eq is_pseudo u ++ free_in_trees nat_eq is_pseudo (trees_of (drop (suc i) ts))) (sym e))

-- the statements from a number on
pub free_in_statements-drop : (is_pseudo : ℕ → Bool) (ss : List Statement) (i : ℕ) (s : Statement) → i < length ss → s ≡ get_or ss i s
    → free_in_statements nat_eq is_pseudo (statements_of (drop i ss)) ≡ free_occurrences nat_eq is_pseudo s.node ++ free_in_statements nat_eq is_pseudo (statements_of (drop (i + 1) ss))
free_in_statements-drop is_pseudo ss i s h e =
    rw add-one (ap (λ (us : List Statement). free_in_statements nat_eq is_pseudo (statements_of us)) (drop-cons ss i s h)
    ∙ ap (λ (u : Statement). free_occurrences nat_eq is_pseudo u.node ++ free_in_statements nat_eq is_pseudo (statements_of (drop (suc i) ss))) (sym e))

-- the messages from a number on
pub free_in_messages-drop : (is_pseudo : ℕ → Bool) (ms : List Message) (i : ℕ) (m : Message) (args : List (TreeOf ℕ)) → i < length ms → m ≡ get_or ms i m → args ≡ m.arguments
    → free_in_messages nat_eq is_pseudo (messages_of (drop i ms)) ≡ free_in_trees nat_eq is_pseudo (trees_of args) ++ free_in_messages nat_eq is_pseudo (messages_of (drop (i + 1) ms))
free_in_messages-drop is_pseudo ms i m args h e a =
    rw add-one (ap (λ (us : List Message). free_in_messages nat_eq is_pseudo (messages_of us)) (drop-cons ms i m h)
    ∙ ap (λ (us : List (TreeOf ℕ)). free_in_trees nat_eq is_pseudo (trees_of us) ++ free_in_messages nat_eq is_pseudo (messages_of (drop (suc i) ms))) (ap (λ (k : Message). k.arguments) (sym e) ∙ sym a))

-- a list with further names begins as before
with_names-begins : (ns ks : List ℕ) → (rest : List ℕ) × (with_names ns ks ≡ ns ++ rest)
with_names-begins ns [] = ([], sym (append-nil ns))
with_names-begins ns (k ∷ ks) =
    elim (is_among nat_eq ns k) as (λ b. (rest : List ℕ) × (with_names (if b then ns else ns ++ k ∷ []) ks ≡ ns ++ rest)) [
      | true ↦ with_names-begins ns ks
      | false ↦ let w = with_names-begins (ns ++ k ∷ []) ks in (k ∷ w.0, w.1 ∙ append_assoc ns (k ∷ []) w.0)
    ]

-- so its first names are those
take-with_names : (ns ks : List ℕ) → take (length ns) (with_names ns ks) ≡ ns
take-with_names ns ks = let w = with_names-begins ns ks in ap (take (length ns)) w.1 ∙ take-append_seam ns w.0

-- one more name
is_among-with_name : (ns : List ℕ) (k n : ℕ) → is_among nat_eq (with_name ns k) n ≡ (is_among nat_eq ns n || nat_eq n k)
is_among-with_name ns k n = by (is_among nat_eq ns k) (nat_eq n k) refl refl
  where
    by : (b e : Bool) → is_among nat_eq ns k ≡ b → nat_eq n k ≡ e → is_among nat_eq (if b then ns else ns ++ k ∷ []) n ≡ (is_among nat_eq ns n || e)
    by true true p q = let same : n ≡ k = eqb-true n k q in let there : is_among nat_eq ns n ≡ true = ap (is_among nat_eq ns) same ∙ p in there ∙ sym (ap (λ b. b || true) there)
    by true false p q = sym (or-false (is_among nat_eq ns n))
    by false e p q = list_any-append (nat_eq n) ns (k ∷ []) ∙ ap (λ b. is_among nat_eq ns n || b) (or-false (nat_eq n k) ∙ q)

-- further names
is_among-with_names : (ns ks : List ℕ) (n : ℕ) → is_among nat_eq (with_names ns ks) n ≡ (is_among nat_eq ns n || is_among nat_eq ks n)
is_among-with_names ns [] n = sym (or-false (is_among nat_eq ns n))
is_among-with_names ns (k ∷ ks) n =
    is_among-with_names (with_name ns k) ks n
    ∙ ap (λ b. b || is_among nat_eq ks n) (is_among-with_name ns k n)
    ∙ or-assoc (is_among nat_eq ns n) (nat_eq n k) (is_among nat_eq ks n)

-- a name is among the ordinary ones if it is one
is_among-ordinary : (is_pseudo : ℕ → Bool) (ns : List ℕ) (n : ℕ) → is_among nat_eq (ordinary is_pseudo ns) n ≡ (not (is_pseudo n) && is_among nat_eq ns n)
is_among-ordinary is_pseudo [] n = sym (and-false (not (is_pseudo n)))
is_among-ordinary is_pseudo (k ∷ ns) n = by (is_pseudo k) (nat_eq n k) refl refl (is_among-ordinary is_pseudo ns n)
  where
    by : (p e : Bool) → is_pseudo k ≡ p → nat_eq n k ≡ e
        → is_among nat_eq (ordinary is_pseudo ns) n ≡ (not (is_pseudo n) && is_among nat_eq ns n)
        → is_among nat_eq (cond (not p) (k ∷ ordinary is_pseudo ns) (ordinary is_pseudo ns)) n ≡ (not (is_pseudo n) && (e || is_among nat_eq ns n))
    by true true p q rest =
        let pseudo : is_pseudo n ≡ true = ap is_pseudo (eqb-true n k q) ∙ p in
        rest ∙ ap (λ b. not b && is_among nat_eq ns n) pseudo ∙ sym (ap (λ b. not b && true) pseudo)
    by true false p q rest = rest
    by false true p q rest =
        let plain : is_pseudo n ≡ false = ap is_pseudo (eqb-true n k q) ∙ p in
        ap (λ b. b || is_among nat_eq (ordinary is_pseudo ns) n) q ∙ sym (ap (λ b. not b && true) plain)
    by false false p q rest = ap (λ b. b || is_among nat_eq (ordinary is_pseudo ns) n) q ∙ rest

-- two tests after each other
filter-filter : (first second both : ℕ → Bool) → ((n : ℕ) → both n ≡ (first n && second n)) → (ns : List ℕ) → filter both ns ≡ filter second (filter first ns)
filter-filter first second both agree [] = refl
filter-filter first second both agree (n ∷ ns) =
    (λ i. cond (agree n i) (n ∷ filter-filter first second both agree ns i) (filter-filter first second both agree ns i))
    ∙ (elim (first n)
    as (λ a. cond (a && second n) (n ∷ filter second (filter first ns)) (filter second (filter first ns)) ≡ filter second (cond a (n ∷ filter first ns) (filter first ns))) [
      | true ↦ refl
      | false ↦ refl
    ])

-- what a block declares, as a change of the bound names
bound_in_block : (is_pseudo : ℕ → Bool) (bound ps ts : List ℕ) (n : ℕ)
    → not (is_among nat_eq (with_names (with_names bound (ordinary is_pseudo ps)) (ordinary is_pseudo ts)) n)
    ≡ (not (declares nat_eq is_pseudo ps ts n) && not (is_among nat_eq bound n))
bound_in_block is_pseudo bound ps ts n =
    ap not
    (is_among-with_names (with_names bound (ordinary is_pseudo ps)) (ordinary is_pseudo ts) n
    ∙ (λ i. is_among-with_names bound (ordinary is_pseudo ps) n i || is_among-ordinary is_pseudo ts n i)
    ∙ ap (λ b. (is_among nat_eq bound n || b) || (not (is_pseudo n) && is_among nat_eq ts n)) (is_among-ordinary is_pseudo ps n))
    ∙ by (is_among nat_eq bound n) (not (is_pseudo n)) (is_among nat_eq ps n) (is_among nat_eq ts n)
  where
    by : (b p q r : Bool) → not ((b || (p && q)) || (p && r)) ≡ (not (p && (q || r)) && not b)
    by true p q r = sym (and-false (not (p && (q || r))))
    by false true true r = refl
    by false true false true = refl
    by false true false false = refl
    by false false q r = refl

-- what is free in a block
pub gathered-block : (is_pseudo : ℕ → Bool) (bound found ps ts ns : List ℕ)
    → gathered (with_names (with_names bound (ordinary is_pseudo ps)) (ordinary is_pseudo ts)) found ns
    ≡ gathered bound found (filter (λ n. not (declares nat_eq is_pseudo ps ts n)) ns)
gathered-block is_pseudo bound found ps ts ns =
    ap (with_names found)
    (filter-filter (λ n. not (declares nat_eq is_pseudo ps ts n)) (λ n. not (is_among nat_eq bound n)) _ (bound_in_block is_pseudo bound ps ts) ns)

-- what is gathered in a block, as the code does it
pub gathers_block : (is_pseudo : ℕ → Bool) (t : TreeOf ℕ) (ps ts : List ℕ) (ss : List Statement) (tail : Notes)
    (own_ps own_ts : List ℕ) (these : List Statement) (bound first second third fourth found found_after : List ℕ) (around : ℕ)
    → t ≡ block ps ts (statements_of ss) tail → own_ps ≡ ps → own_ts ≡ ts → these ≡ ss → around ≡ length bound
    → first ≡ with_names bound (ordinary is_pseudo own_ps) → second ≡ with_names first (ordinary is_pseudo own_ts)
    → third ≡ second → fourth ≡ take around third
    → found_after ≡ gathered second found (free_in_statements nat_eq is_pseudo (statements_of these))
    → (fourth ≡ bound) × (found_after ≡ gathered bound found (free_occurrences nat_eq is_pseudo t))
gathers_block is_pseudo t ps ts ss tail own_ps own_ts these bound first second third fourth found found_after around is_block p q r len f s th fo g =
    let declared : first ≡ with_names bound (ordinary is_pseudo ps) = f ∙ ap (λ (ns : List ℕ). with_names bound (ordinary is_pseudo ns)) p in
    let inside : second ≡ with_names (with_names bound (ordinary is_pseudo ps)) (ordinary is_pseudo ts) =
    s ∙ (λ i. with_names (declared i) (ordinary is_pseudo (q i))) in
    let begins = with_names-begins bound (ordinary is_pseudo ps) in
    let more = with_names-begins (with_names bound (ordinary is_pseudo ps)) (ordinary is_pseudo ts) in (
      fo
          ∙ (λ i. take (len i) ((th ∙ inside) i))
          ∙ ap (take (length bound)) (more.1 ∙ ap (λ (ns : List ℕ). ns ++ more.0) begins.1 ∙ append_assoc bound begins.0 more.0)
          ∙ take-append_seam bound (begins.0 ++ more.0),
      g
          ∙ (λ i. gathered (inside i) found (free_in_statements nat_eq is_pseudo (statements_of (r i))))
          ∙ gathered-block is_pseudo bound found ps ts (free_in_statements nat_eq is_pseudo (statements_of ss))
          ∙ ap (λ (u : TreeOf ℕ). gathered bound found (free_occurrences nat_eq is_pseudo u)) (sym is_block),
    )

-- numbers that are equal are so in both orders
nat_eq-symmetric : (j k : ℕ) → nat_eq j k ≡ nat_eq k j
nat_eq-symmetric j k = by (nat_eq j k) refl
  where
    by : (b : Bool) → nat_eq j k ≡ b → nat_eq j k ≡ nat_eq k j
    by true e = e ∙ sym (eq-eqb k j (sym (eqb-true j k e)))
    by false e = e ∙ sym (ne_eqb k j (λ same. eqb-false j k e (sym same)))

-- the test that keeps all
filter-all : (ns : List ℕ) → filter (λ n. true) ns ≡ ns
filter-all [] = refl
filter-all (n ∷ ns) = ap (λ (ks : List ℕ). n ∷ ks) (filter-all ns)

-- a name that is there already is no other one
there_already : (ns : List ℕ) (k : ℕ) → is_among nat_eq ns k ≡ true → (j : ℕ) → not (is_among nat_eq ns j) ≡ (not (nat_eq k j) && not (is_among nat_eq ns j))
there_already ns k there j = by (nat_eq k j) refl
  where
    by : (b : Bool) → nat_eq k j ≡ b → not (is_among nat_eq ns j) ≡ (not b && not (is_among nat_eq ns j))
    by true e = ap not (ap (is_among nat_eq ns) (sym (eqb-true k j e)) ∙ there)
    by false e = refl

-- neither in the longer list
not_in_longer : (ns : List ℕ) (k j : ℕ) → not (is_among nat_eq (ns ++ k ∷ []) j) ≡ (not (nat_eq k j) && not (is_among nat_eq ns j))
not_in_longer ns k j =
    ap not (list_any-append (nat_eq j) ns (k ∷ []) ∙ ap (λ b. is_among nat_eq ns j || b) (or-false (nat_eq j k) ∙ nat_eq-symmetric j k))
    ∙ by (is_among nat_eq ns j) (nat_eq k j)
  where
    by : (b e : Bool) → not (b || e) ≡ (not e && not b)
    by true e = sym (and-false (not e))
    by false true = refl
    by false false = refl

-- one more name, which is there or not
once_more : (ns : List ℕ) (k : ℕ) (ks : List ℕ) (b : Bool) → is_among nat_eq ns k ≡ b
    → ((ls : List ℕ) → with_names ls ks ≡ ls ++ filter (λ n. not (is_among nat_eq ls n)) (each_once nat_eq ks))
    → with_names (with_name ns k) ks ≡ ns ++ filter (λ n. not (is_among nat_eq ns n)) (each_once nat_eq (k ∷ ks))
once_more ns k ks true there rest =
    ap (λ b. with_names (if b then ns else ns ++ k ∷ []) ks) there
    ∙ rest ns
    ∙ ap (λ (ls : List ℕ). ns ++ ls)
    (filter-filter (λ j. not (nat_eq k j)) (λ j. not (is_among nat_eq ns j)) _ (there_already ns k there) (each_once nat_eq ks)
    ∙ sym (ap (λ b. cond (not b) (k ∷ filter (λ j. not (is_among nat_eq ns j)) (filter (λ j. not (nat_eq k j)) (each_once nat_eq ks)))
    (filter (λ j. not (is_among nat_eq ns j)) (filter (λ j. not (nat_eq k j)) (each_once nat_eq ks)))) there))
once_more ns k ks false there rest =
    ap (λ b. with_names (if b then ns else ns ++ k ∷ []) ks) there
    ∙ rest (ns ++ k ∷ [])
    ∙ append_assoc ns (k ∷ []) _
    ∙ ap (λ (ls : List ℕ). ns ++ k ∷ ls)
    (filter-filter (λ j. not (nat_eq k j)) (λ j. not (is_among nat_eq ns j)) _ (not_in_longer ns k) (each_once nat_eq ks))
    ∙ ap (λ (ls : List ℕ). ns ++ ls)
    (sym (ap (λ b. cond (not b) (k ∷ filter (λ j. not (is_among nat_eq ns j)) (filter (λ j. not (nat_eq k j)) (each_once nat_eq ks)))
    (filter (λ j. not (is_among nat_eq ns j)) (filter (λ j. not (nat_eq k j)) (each_once nat_eq ks)))) there))

-- each name once, by adding one after the other
pub with_names-each_once : (ns ks : List ℕ) → with_names ns ks ≡ ns ++ filter (λ n. not (is_among nat_eq ns n)) (each_once nat_eq ks)
with_names-each_once ns [] = sym (append-nil ns)
with_names-each_once ns (k ∷ ks) =
    once_more ns k ks (is_among nat_eq ns k) refl (λ ls. with_names-each_once ls ks)

-- the names that are gathered where none is bound and none was found
pub gathered-each_once : (ks : List ℕ) → gathered [] [] ks ≡ each_once nat_eq ks
gathered-each_once ks =
    ap (with_names []) (filter-all ks) ∙ with_names-each_once [] ks ∙ filter-all (each_once nat_eq ks)

pub ruleset gathering = (gathered-append, gathered-each_once)
