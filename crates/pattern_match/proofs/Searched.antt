-- What a search finds, part by part.
use Rattle.std.proofs.Common.{◌≡◌, ℕ, zero, suc, ◌+◌, ◌-◌, ◌<◌, ◌≤◌, Bool, true, false, List, [], ◌∷◌, ◌++◌, length, get_or, drop, map, refl, sym, ap, subst, ◌∙◌, arith, Some, None, append-nil, append_assoc}
use Rattle.std.proofs.Common.{Vec, Global}
use Rattle.std.specs.Prelude.{option_map, cond, flat_map, Result, Ok, Err, OnOk, IfOk}
use Rattle.rb_base.specs.declared.Memory.{Memory}
use Rattle.std.specs.List.{AllByRecursion}
use Rattle.std.proofs.lemmas.List.{drop_more}
use Rattle.tree_model.specs.Tree.{TreeOf, TreesOf, no_trees, more_trees, StatementsOf, no_statements, more_statements, trees_of}
use Rattle.tree_model.specs.Path.{children, count, append, all_arguments, statement_trees}
use Rattle.tree_model.specs.Measure.{height}
use Rattle.tree_model.specs.Nodes.{Placed}
use Rattle.st_tree.specs.View.{messages_of}
use Rattle.st_tree.specs.declared.tree.Message.{Message}
use Rattle.st_tree.proofs.Places.{count-trees_of}
use Rattle.pattern_model.specs.Patterns.{PatternOf, meta, var_like, literal_like, send_like, cascade_like, assign_like, block_like, brace_like, return_like}
use Rattle.pattern_model.specs.MatchTree.{PlaceOf, FoundOf, numbered, numbered_statements, match_places}
use Rattle.pattern_model.specs.Search.{doubled_parts, placed_children, searched_in, found_among, found_by, found}
use Rattle.pattern_laws.proofs.Found.{all_append}
use Rattle.pattern_laws.proofs.Heights.{AreWithin, IsPlaceWithin, IsWithin, IsLowFor, numbered_within, children_within, high}
use Rattle.pattern_laws.proofs.Searching.{match_within, found-step}
use Rattle.patterns.specs.View.{pattern_from}
use Rattle.patterns.specs.declared.tree.Meta.{Meta}
use Rattle.patterns.specs.declared.tree.PatternKind.{PatternKind}
use Rattle.patterns.specs.declared.tree.PatternKind.TheVariants as kind
use Rattle.pattern_match.specs.declared.standing.Part.{Part}
use Rattle.pattern_match.specs.declared.standing.Place.{Place}
use Rattle.pattern_match.specs.Words.{number_words}
use Rattle.pattern_match.specs.Gathering.{parts_from, place_of, under, kept}
use Rattle.pattern_match.specs.Parts.{placed_parts, parts_height, places_height, searched_height, onward}

-- a part is no higher than the highest
pub part_low : (ps : List Part) (i : ℕ) (p : Part) → i < length ps → p ≡ get_or ps i p → height p.node.now ≤ parts_height ps
part_low [] i p h e = absurd (omega arith)
part_low (q ∷ ps) zero p h e = omega (arith, ap (λ (x : Part). height x.node.now) e)
part_low (q ∷ ps) (suc i) p h e = omega (arith, part_low ps i p (omega arith) e)

pub place_low : (ps : List Place) (i : ℕ) (p : Place) → i < length ps → p ≡ get_or ps i p → parts_height p.parts.items ≤ places_height ps
place_low [] i p h e = absurd (omega arith)
place_low (q ∷ ps) zero p h e = omega (arith, ap (λ (x : Place). parts_height x.parts.items) e)
place_low (q ∷ ps) (suc i) p h e = omega (arith, place_low ps i p (omega arith) e)

pub ruleset part_rules = (part_low, place_low)

-- numbered nodes go on behind others
pub numbered_append : (k : ℕ) (ts us : TreesOf ℕ) → numbered k (append ts us) ≡ numbered k ts ++ numbered (k + count ts) us
numbered_append k no_trees us = let e : k ≡ k + 0 = omega arith in ap (λ n. numbered n us) e
numbered_append k (more_trees t ts) us =
    let e : (k + 1) + count ts ≡ k + (count ts + 1) = omega arith in
    ap (λ (es : List (Placed ℕ)). (k ∷ [], t) ∷ es) (numbered_append (k + 1) ts us ∙ ap (λ n. numbered (k + 1) ts ++ numbered n us) e)

-- statements are numbered as their nodes are
pub numbered_nodes : (k : ℕ) (ss : StatementsOf ℕ) → numbered k (statement_trees ss) ≡ numbered_statements k ss
numbered_nodes k no_statements = refl
numbered_nodes k (more_statements c t ss) = ap (λ (es : List (Placed ℕ)). (k ∷ [], t) ∷ es) (numbered_nodes (k + 1) ss)

-- one more message
pub message_parts : (ms : List Message) (m : Message) (i k j : ℕ) → i < length ms → m ≡ get_or ms i m → j ≡ k + length m.arguments
    → numbered k (all_arguments (messages_of (drop i ms))) ≡ numbered k (trees_of m.arguments) ++ numbered j (all_arguments (messages_of (drop (i + 1) ms)))
message_parts ms m i k j h e next =
    let cut : drop i ms ≡ m ∷ drop (i + 1) ms = drop_more ms i m h ∙ ap (λ (x : Message). x ∷ drop (i + 1) ms) (sym e) in
    let later : k + count (trees_of m.arguments) ≡ j = ap (λ n. k + n) (count-trees_of m.arguments) ∙ sym next in
    ap (λ (xs : List Message). numbered k (all_arguments (messages_of xs))) cut
    ∙ numbered_append k (trees_of m.arguments) (all_arguments (messages_of (drop (i + 1) ms)))
    ∙ ap (λ n. numbered k (trees_of m.arguments) ++ numbered n (all_arguments (messages_of (drop (i + 1) ms)))) later

-- paths that lead on
pub onward-both : (q : List ℕ) (xs ys : List (List ℕ)) → onward q (xs ++ ys) ≡ onward q xs ++ onward q ys
onward-both q [] ys = refl
onward-both q (x ∷ xs) ys = ap (λ (zs : List (List ℕ)). (q ++ x) ∷ zs) (onward-both q xs ys)

pub onward-onward : (q p : List ℕ) (xs : List (List ℕ)) → onward q (onward p xs) ≡ onward (q ++ p) xs
onward-onward q p [] = refl
onward-onward q p (x ∷ xs) = λ i. sym (append_assoc q p x) i ∷ onward-onward q p xs i

pub onward-none : (xs : List (List ℕ)) → onward [] xs ≡ xs
onward-none [] = refl
onward-none (x ∷ xs) = ap (λ (zs : List (List ℕ)). x ∷ zs) (onward-none xs)

-- what is found among parts of two lists
pub among-both : (f : TreeOf ℕ → List (List ℕ)) (es ds : List (Placed ℕ)) → found_among f (es ++ ds) ≡ found_among f es ++ found_among f ds
among-both f [] ds = refl
among-both f (e ∷ es) ds = ap (λ (zs : List (List ℕ)). onward e.0 (f e.1) ++ zs) (among-both f es ds) ∙ sym (append_assoc (onward e.0 (f e.1)) (found_among f es) (found_among f ds))

-- one more part, and one more place
pub part_more : (f : TreeOf ℕ → List (List ℕ)) (q : List ℕ) (ps : List Part) (p : Part) (i : ℕ) (old mid all : List (List ℕ)) → i < length ps → p ≡ get_or ps i p
    → mid ≡ old ++ onward (q ++ p.path.items) (f p.node.now) → old ++ onward q (found_among f (parts_from (drop i ps))) ≡ all → mid ++ onward q (found_among f (parts_from (drop (i + 1) ps))) ≡ all
part_more f q ps p i old mid all h e more so_far =
    let cut : drop i ps ≡ p ∷ drop (i + 1) ps = drop_more ps i p h ∙ ap (λ (x : Part). x ∷ drop (i + 1) ps) (sym e) in
    let rest : List (List ℕ) = found_among f (parts_from (drop (i + 1) ps)) in
    ap (λ (zs : List (List ℕ)). zs ++ onward q rest) more
    ∙ append_assoc old (onward (q ++ p.path.items) (f p.node.now)) (onward q rest)
    ∙ ap (λ (zs : List (List ℕ)). old ++ zs) (ap (λ (zs : List (List ℕ)). zs ++ onward q rest) (sym (onward-onward q p.path.items (f p.node.now))) ∙ sym (onward-both q (onward p.path.items (f p.node.now)) rest))
    ∙ ap (λ (xs : List Part). old ++ onward q (found_among f (parts_from xs))) (sym cut)
    ∙ so_far

pub place_more : (f : TreeOf ℕ → List (List ℕ)) (q : List ℕ) (ps : List Place) (p : Place) (i : ℕ) (old mid all : List (List ℕ)) → i < length ps → p ≡ get_or ps i p
    → mid ≡ old ++ onward q (found_among f (parts_from p.parts.items)) → old ++ onward q (found_among f (placed_parts (drop i ps))) ≡ all → mid ++ onward q (found_among f (placed_parts (drop (i + 1) ps))) ≡ all
place_more f q ps p i old mid all h e more so_far =
    let cut : drop i ps ≡ p ∷ drop (i + 1) ps = drop_more ps i p h ∙ ap (λ (x : Place). x ∷ drop (i + 1) ps) (sym e) in
    let one : List (Placed ℕ) = parts_from p.parts.items in
    let rest : List (Placed ℕ) = placed_parts (drop (i + 1) ps) in
    ap (λ (zs : List (List ℕ)). zs ++ onward q (found_among f rest)) more
    ∙ append_assoc old (onward q (found_among f one)) (onward q (found_among f rest))
    ∙ ap (λ (zs : List (List ℕ)). old ++ zs) (sym (onward-both q (found_among f one) (found_among f rest)) ∙ ap (onward q) (sym (among-both f one rest)))
    ∙ ap (λ (xs : List Place). old ++ onward q (found_among f (placed_parts xs))) (sym cut)
    ∙ so_far

-- the parts that are kept are those of doubled metavariables
under-none : (es : List (Placed ℕ)) → under [] es ≡ es
under-none [] = refl
under-none (e ∷ es) = ap (λ (ds : List (Placed ℕ)). e ∷ ds) (under-none es)

abbrev all_parts : List (PlaceOf ℕ) → List (Placed ℕ)
all_parts xs = flat_map (λ x. x.parts) xs

kept_parts : (xs : List (PlaceOf ℕ)) → all_parts (map (kept []) xs) ≡ doubled_parts xs
kept_parts [] = refl
kept_parts (x ∷ xs) = λ i. by x.meta.doubled i ++ kept_parts xs i
  where
    by : (b : Bool) → cond b (under [] x.parts) [] ≡ cond b x.parts []
    by true = under-none x.parts
    by false = refl

program_parts : (ps : List Place) → placed_parts ps ≡ all_parts (map place_of ps)
program_parts [] = refl
program_parts (p ∷ ps) = ap (λ (es : List (Placed ℕ)). parts_from p.parts.items ++ es) (program_parts ps)

pub parts_kept : (ps : List Place) (xs : List (PlaceOf ℕ)) → map place_of ps ≡ map (kept []) xs → placed_parts ps ≡ doubled_parts xs
parts_kept ps xs e = program_parts ps ∙ ap all_parts e ∙ kept_parts xs

-- heights of nodes with paths
height_of : (n : ℕ) (ps : List Part) → AreWithin n (parts_from ps) → parts_height ps ≤ n
height_of n [] h = omega arith
height_of n (p ∷ ps) h = omega (arith, h.0, height_of n ps h.1)

two_parts : (n : ℕ) (es ds : List (Placed ℕ)) → AreWithin n (es ++ ds) → AreWithin n es × AreWithin n ds
two_parts n [] ds h = (tt, h)
two_parts n (e ∷ es) ds h = let g = two_parts n es ds h.1 in ((h.0, g.0), g.1)

heights_of : (n : ℕ) (ps : List Place) → AreWithin n (placed_parts ps) → places_height ps ≤ n
heights_of n [] h = omega arith
heights_of n (p ∷ ps) h = let g = two_parts n (parts_from p.parts.items) (placed_parts ps) h in omega (arith, height_of n p.parts.items g.0, heights_of n ps g.1)

doubled_within : (n : ℕ) (xs : List (PlaceOf ℕ)) → AllByRecursion (IsPlaceWithin n) xs → AreWithin n (doubled_parts xs)
doubled_within n [] h = tt
doubled_within n (x ∷ xs) h = all_append (λ (e : Placed ℕ). height e.1 ≤ n) (cond x.meta.doubled x.parts []) (doubled_parts xs) (by x.meta.doubled) (doubled_within n xs h.1)
  where
    by : (b : Bool) → AreWithin n (cond b x.parts [])
    by true = h.0.1
    by false = tt

-- the nodes right below a node are lower
pub lower_below : (t : TreeOf ℕ) (ps : List Part) → parts_from ps ≡ placed_children t → parts_height ps < height t
lower_below t ps e =
    let n : ℕ = height t - 1 in
    let one : 1 ≤ height t = high t in
    let low : height t ≤ n + 1 = omega (arith, one) in
    let most : parts_height ps ≤ n = height_of n ps (subst (AreWithin n) (sym e) (numbered_within n 0 (children t) (children_within n t low))) in
    omega (arith, one, most)

module _ (names : List (List ℕ)) where
  lower_places : (p : PatternOf ℕ) (t : TreeOf ℕ) (ps : List Place) (xs : List (PlaceOf ℕ)) → ((n : ℕ) → height t ≤ n + 1 → IsLowFor n p t) → match_places (number_words names) p t ≡ Some xs → map place_of ps ≡ map (kept []) xs → places_height ps < height t
  lower_places p t ps xs low m e =
      let n : ℕ = height t - 1 in
      let one : 1 ≤ height t = high t in
      let within : IsWithin n (Some xs) = subst (IsWithin n) m (match_within (number_words names) n p t (low n (omega (arith, one)))) in
      let most : places_height ps ≤ n = heights_of n ps (subst (AreWithin n) (sym (parts_kept ps xs e)) (doubled_within n xs within)) in
      omega (arith, one, most)

  -- what is searched in a match is lower than the node
  pub lower_match : (p : PatternOf ℕ) (t : TreeOf ℕ) (ps : List Place) (xs : List (PlaceOf ℕ)) → match_places (number_words names) p t ≡ Some xs → map place_of ps ≡ map (kept []) xs → searched_height p ps < height t
  lower_match (meta m) t ps xs f e = let one : 1 ≤ height t = high t in omega (arith, one)
  lower_match (var_like n) t ps xs f e = lower_places (var_like n) t ps xs (λ n h. h) f e
  lower_match (literal_like l) t ps xs f e = lower_places (literal_like l) t ps xs (λ n h. h) f e
  lower_match (send_like r s qs) t ps xs f e = lower_places (send_like r s qs) t ps xs (λ n h. h) f e
  lower_match (cascade_like r ms) t ps xs f e = lower_places (cascade_like r ms) t ps xs (λ n h. h) f e
  lower_match (assign_like k q) t ps xs f e = lower_places (assign_like k q) t ps xs (λ n h. h) f e
  lower_match (block_like ds ts ss d) t ps xs f e = lower_places (block_like ds ts ss d) t ps xs (λ n h. h) f e
  lower_match (brace_like qs) t ps xs f e = lower_places (brace_like qs) t ps xs (λ n h. h) f e
  lower_match (return_like q) t ps xs f e = lower_places (return_like q) t ps xs (λ n h. h) f e

  module _ (p : PatternOf ℕ) (t : TreeOf ℕ) where
    -- what is found where the node does not match, and where it does
    pub found_none : None ≡ option_map (map (kept [])) (match_places (number_words names) p t) → found (number_words names) p t ≡ found_among (found (number_words names) p) (placed_children t)
    found_none e = found-step (number_words names) p t ∙ by (match_places (number_words names) p t) e
      where
        by : (o : FoundOf ℕ) → None ≡ option_map (map (kept [])) o → found_by (found (number_words names) p) p t o ≡ found_among (found (number_words names) p) (placed_children t)
        by None f = refl
        by (Some xs) f = let bad : ⊥ = cc in absurd bad

    pub record IsMatch (ps : List Place) (xs : List (PlaceOf ℕ)) : Type 0 where
      pub matched : match_places (number_words names) p t ≡ Some xs
      pub placed : map place_of ps ≡ map (kept []) xs
      pub finds : found (number_words names) p t ≡ [] ∷ found_among (found (number_words names) p) (searched_in p t xs)

    pub found_some : (ps : List Place) → Some (map place_of ps) ≡ option_map (map (kept [])) (match_places (number_words names) p t) → (xs : List (PlaceOf ℕ)) × IsMatch ps xs
    found_some ps e = by (match_places (number_words names) p t) refl e
      where
        by : (o : FoundOf ℕ) → match_places (number_words names) p t ≡ o → Some (map place_of ps) ≡ option_map (map (kept [])) o → (xs : List (PlaceOf ℕ)) × IsMatch ps xs
        by None m f = let bad : ⊥ = cc in absurd bad
        by (Some xs) m f = (xs, record { matched = m; placed = cc; finds = found-step (number_words names) p t ∙ ap (found_by (found (number_words names) p) p t) m })

-- the path itself, and what is found further on
pub path_first : (q : List ℕ) (old mid new rest : List (List ℕ)) → mid ≡ old ++ q ∷ [] → new ≡ mid ++ onward q rest → new ≡ old ++ onward q ([] ∷ rest)
path_first q old mid new rest e f =
    f ∙ ap (λ (zs : List (List ℕ)). zs ++ onward q rest) e ∙ append_assoc old (q ∷ []) (onward q rest) ∙ ap (λ (x : List ℕ). old ++ x ∷ onward q rest) (sym (append-nil q))

-- what follows where a call went well
pub on_ok : {T E : Type 0} (r : Result T E) (P Q : Type 0) → (P → Q) → OnOk r P → OnOk r Q
on_ok (Ok x) P Q f h = f h
on_ok (Err e) P Q f h = h

pub parts_low : (t : TreeOf ℕ) (r : Result (Vec Part Global) Memory) → IfOk r (λ ps. parts_from ps.items ≡ placed_children t) → IfOk r (λ ps. parts_height ps.items < height t)
parts_low t (Ok ps) h = lower_below t ps.items h
parts_low t (Err e) h = h

-- what is searched where the pattern is no metavariable
pub match_parts : (k : PatternKind) (t : TreeOf ℕ) (xs : List (PlaceOf ℕ)) → ((m : Meta) → k ≡ kind.Meta m → ⊥) → searched_in (pattern_from k) t xs ≡ doubled_parts xs
match_parts (kind.Meta m) t xs h = absurd (h m refl)
match_parts (kind.Var n) t xs h = refl
match_parts (kind.Literal l) t xs h = refl
match_parts (kind.Send r m) t xs h = refl
match_parts (kind.Cascade r ms) t xs h = refl
match_parts (kind.Assign n q) t xs h = refl
match_parts (kind.Block ps body) t xs h = refl
match_parts (kind.Brace ps) t xs h = refl
match_parts (kind.Return q) t xs h = refl

-- a body is searched statement by statement
pub body_found : (f : TreeOf ℕ → List (List ℕ)) (old new : List (List ℕ)) (ss : StatementsOf ℕ) (es : List (Placed ℕ)) → es ≡ numbered 0 (statement_trees ss) → new ≡ old ++ onward [] (found_among f es) → new ≡ old ++ found_among f (numbered_statements 0 ss)
body_found f old new ss es e h = h ∙ ap (λ (zs : List (List ℕ)). old ++ zs) (onward-none (found_among f es) ∙ ap (found_among f) (e ∙ numbered_nodes 0 ss))
