-- The sequence of the innermost statement round a place.
use Rattle.std.proofs.Common.{◌≡◌, ◌⊎◌, inl, inr, ℕ, ◌+◌, List, [], ◌∷◌, ◌++◌, length, take, slice_get, Option, Some, None, option_and_then, option_map, refl, sym, ap, subst, ◌∙◌, arith}
use Rattle.std.specs.Prelude.{unwrap_or}
use Rattle.std.specs.Option.{option_map_or}
use Rattle.tree_model.specs.Tree.{Notes, TreeOf, var, literal, send, cascade, assign, block, brace, return, StatementsOf, SequenceOf, MethodOf}
use Rattle.tree_model.specs.Path.{nth, statement_trees, child, part_at, part_among, part_in}
use Rattle.scope_model.specs.Scope.{ScopeOf, PlacedScope, method_scope, own_scope, entered}
use Rattle.grammar_model.specs.Checks.{Known}
use Rattle.reread_law.specs.Declarations.{known_names}
use Rattle.file_model.specs.Filing.{Text}
use Rattle.image_model.proofs.Ends.{slice_get-front}
use Rattle.command_model.specs.Places.{innermost, sequence_round, statement_round}
use Rattle.code_effect_laws.proofs.Proper.{IsProper}
use Rattle.code_effect_laws.proofs.Places.{known_by, known_among, part_of_statements}
use Rattle.code_effect_laws.proofs.Methods.{IsProperSequence, known_in, IsSequenceAt, IsBody, IsInBlock}

-- a path enters no scope on from a node
abbrev pub IsOpen : TreeOf Text → List ℕ → Type 0
IsOpen t path = (depth : ℕ) → entered depth t path ≡ []

-- the last block that a path to a part enters, the statement there, and the rest of the path
record IsInside (depth : ℕ) (t c : TreeOf Text) (path : List ℕ) : Type 0 where
  way : List ℕ
  number : ℕ
  rest : List ℕ
  whole : path ≡ way ++ number ∷ rest
  ps : List Text
  ts : List Text
  ss : StatementsOf Text
  tail : Notes
  found : part_at t way ≡ Some (block ps ts ss tail)
  statement : TreeOf Text
  stands : nth (statement_trees ss) number ≡ Some statement
  leads : part_at statement rest ≡ Some c
  plain : IsOpen statement rest
  scope : ScopeOf Text
  first : slice_get (entered depth t path) 0 ≡ Some (depth + length way, scope)

-- a node with one step on, behind which no scope is entered
here : (depth : ℕ) (t d c : TreeOf Text) (k : ℕ) (path : List ℕ) → child t k ≡ Some d → part_at d path ≡ Some c → IsOpen d path → IsOpen t (k ∷ path) ⊎ IsInside depth t c (k ∷ path)
here depth (var n) d c k path q e o = absurd (cc)
here depth (literal l) d c k path q e o = absurd (cc)
here depth (send r s xs) d c k path q e o = inl (λ j. ap (λ (x : Option (TreeOf Text)). unwrap_or (option_map (λ y. entered (j + 1) y path) x) [] ++ []) q ∙ ap (λ xs. xs ++ []) (o (j + 1)))
here depth (cascade r ms) d c k path q e o = inl (λ j. ap (λ (x : Option (TreeOf Text)). unwrap_or (option_map (λ y. entered (j + 1) y path) x) [] ++ []) q ∙ ap (λ xs. xs ++ []) (o (j + 1)))
here depth (assign n t) d c k path q e o = inl (λ j. ap (λ (x : Option (TreeOf Text)). unwrap_or (option_map (λ y. entered (j + 1) y path) x) [] ++ []) q ∙ ap (λ xs. xs ++ []) (o (j + 1)))
here depth (brace ts) d c k path q e o = inl (λ j. ap (λ (x : Option (TreeOf Text)). unwrap_or (option_map (λ y. entered (j + 1) y path) x) [] ++ []) q ∙ ap (λ xs. xs ++ []) (o (j + 1)))
here depth (return t) d c k path q e o = inl (λ j. ap (λ (x : Option (TreeOf Text)). unwrap_or (option_map (λ y. entered (j + 1) y path) x) [] ++ []) q ∙ ap (λ xs. xs ++ []) (o (j + 1)))
here depth (block ps ts ss tail) d c k path q e o = inr (record {
  way = [];
  number = k;
  rest = path;
  whole = refl;
  ps = ps;
  ts = ts;
  ss = ss;
  tail = tail;
  found = refl;
  statement = d;
  stands = q;
  leads = e;
  plain = o;
  scope = record { arguments = ps; temporaries = ts; statements = ss };
  first =
      ap (λ (x : Option (TreeOf Text)). slice_get (unwrap_or (option_map (λ y. entered (depth + 1) y path) x) [] ++ own_scope depth (block ps ts ss tail)) 0) q
      ∙ ap (λ xs. slice_get (xs ++ own_scope depth (block ps ts ss tail)) 0) (o (depth + 1))
      ∙ ap (λ n. Some (n, record { arguments = ps; temporaries = ts; statements = ss })) (let same : depth ≡ depth + 0 = omega arith in same);
})

-- one step before that
before : (depth : ℕ) (t d c : TreeOf Text) (k : ℕ) (path : List ℕ) → child t k ≡ Some d → IsInside (depth + 1) d c path → IsInside depth t c (k ∷ path)
before depth t d c k path q i = record {
  way = k ∷ i.way;
  number = i.number;
  rest = i.rest;
  whole = ap (λ (xs : List ℕ). k ∷ xs) i.whole;
  ps = i.ps;
  ts = i.ts;
  ss = i.ss;
  tail = i.tail;
  found = ap (option_and_then (λ x. part_at x i.way)) q ∙ i.found;
  statement = i.statement;
  stands = i.stands;
  leads = i.leads;
  plain = i.plain;
  scope = i.scope;
  first =
      ap (λ (x : Option (TreeOf Text)). slice_get (unwrap_or (option_map (λ y. entered (depth + 1) y path) x) [] ++ own_scope depth t) 0) q
      ∙ slice_get-front (entered (depth + 1) d path) (own_scope depth t) 0 (depth + 1 + length i.way, i.scope) i.first
      ∙ ap (λ n. Some (n, i.scope)) (let same : depth + 1 + length i.way ≡ depth + length (k ∷ i.way) = omega arith in same);
}

inside : (path : List ℕ) (depth : ℕ) (t c : TreeOf Text) → part_at t path ≡ Some c → IsOpen t path ⊎ IsInside depth t c path
inside [] depth t c e = inl (λ j. refl)
inside (k ∷ path) depth t c e = by (child t k) refl (λ d. inside path (depth + 1) d c)
  where
    next : (d : TreeOf Text) → child t k ≡ Some d → part_at d path ≡ Some c → IsOpen d path ⊎ IsInside (depth + 1) d c path → IsOpen t (k ∷ path) ⊎ IsInside depth t c (k ∷ path)
    next d q f (inl o) = here depth t d c k path q f o
    next d q f (inr i) = inr (before depth t d c k path q i)

    by : (o : Option (TreeOf Text)) → child t k ≡ o → ((d : TreeOf Text) → part_at d path ≡ Some c → IsOpen d path ⊎ IsInside (depth + 1) d c path) → IsOpen t (k ∷ path) ⊎ IsInside depth t c (k ∷ path)
    by None q below = let nowhere = ap (option_and_then (λ x. part_at x path)) (sym q) ∙ e in absurd (cc)
    by (Some d) q below = let f = ap (option_and_then (λ x. part_at x path)) (sym q) ∙ e in next d q f (below d f)

-- the sequence of the innermost statement round a part of a method, the number of the statement, and how the path leads on from it
pub record IsInSequence (m : MethodOf Text) (c : TreeOf Text) (path : List ℕ) : Type 0 where
  pub way : List ℕ
  pub number : ℕ
  pub rest : List ℕ
  pub whole : path ≡ way ++ number ∷ rest
  pub known : List Known
  pub parameters : List Text
  pub sequence : SequenceOf Text
  pub there : IsSequenceAt m way known parameters sequence
  pub statement : TreeOf Text
  pub stands : nth (statement_trees sequence.statements) number ≡ Some statement
  pub leads : part_at statement rest ≡ Some c
  pub plain : IsOpen statement rest
  pub innermost : innermost m path ≡ length way

-- the number behind the first so many steps, and these steps
pub number_at : (way rest : List ℕ) (k : ℕ) → slice_get (way ++ k ∷ rest) (length way) ≡ Some k
number_at [] rest k = refl
number_at (j ∷ way) rest k = number_at way rest k

pub way_of : (way rest : List ℕ) (k : ℕ) → take (length way) (way ++ k ∷ rest) ≡ way
way_of [] rest k = refl
way_of (j ∷ way) rest k = ap (λ (xs : List ℕ). j ∷ xs) (way_of way rest k)

module _ (m : MethodOf Text) (c : TreeOf Text) where
  statement_inside : (k : ℕ) (path : List ℕ) (d : TreeOf Text) → nth (statement_trees m.body.statements) k ≡ Some d → part_at d path ≡ Some c → IsOpen d path ⊎ IsInside 1 d c path → IsInSequence m c (k ∷ path)
  statement_inside k path d q f (inl o) = record {
    way = [];
    number = k;
    rest = path;
    whole = refl;
    known = [];
    parameters = m.arguments;
    sequence = m.body;
    there = IsBody;
    statement = d;
    stands = q;
    leads = f;
    plain = o;
    innermost =
        ap (λ (x : Option (TreeOf Text)). option_map_or (λ (s : PlacedScope Text). s.0) (slice_get (unwrap_or (option_map (λ y. entered 1 y path) x) [] ++ (0, method_scope m) ∷ []) 0) 0) q
        ∙ ap (λ xs. option_map_or (λ (s : PlacedScope Text). s.0) (slice_get (xs ++ (0, method_scope m) ∷ []) 0) 0) (o 1);
  }
  statement_inside k path d q f (inr i) = record {
    way = k ∷ i.way;
    number = i.number;
    rest = i.rest;
    whole = ap (λ (xs : List ℕ). k ∷ xs) i.whole;
    known = known_in m (k ∷ i.way);
    parameters = i.ps;
    sequence = record { temporaries = i.ts; statements = i.ss; tail = i.tail };
    there = IsInBlock (ap (option_and_then (λ x. part_at x i.way)) q ∙ i.found);
    statement = i.statement;
    stands = i.stands;
    leads = i.leads;
    plain = i.plain;
    innermost =
        ap (λ (x : Option (TreeOf Text)). option_map_or (λ (s : PlacedScope Text). s.0) (slice_get (unwrap_or (option_map (λ y. entered 1 y path) x) [] ++ (0, method_scope m) ∷ []) 0) 0) q
        ∙ ap (λ (x : Option (PlacedScope Text)). option_map_or (λ (s : PlacedScope Text). s.0) x 0) (slice_get-front (entered 1 d path) ((0, method_scope m) ∷ []) 0 (1 + length i.way, i.scope) i.first)
        ∙ (let same : 1 + length i.way ≡ length (k ∷ i.way) = omega arith in same);
  }

  pub in_sequence : (path : List ℕ) → part_in m.body path ≡ Some c → IsInSequence m c path
  in_sequence [] e = absurd (cc)
  in_sequence (k ∷ path) e = by (nth (statement_trees m.body.statements) k) refl
    where
      by : (o : Option (TreeOf Text)) → nth (statement_trees m.body.statements) k ≡ o → IsInSequence m c (k ∷ path)
      by None q = let nowhere = ap (option_and_then (λ x. part_at x path)) (sym q) ∙ e in absurd (cc)
      by (Some d) q = let f = ap (option_and_then (λ x. part_at x path)) (sym q) ∙ e in statement_inside k path d q f (inside path 1 d c f)

  module _ (path : List ℕ) (i : IsInSequence m c path) where
    pub sequence_is : sequence_round m path ≡ i.way
    sequence_is = ap (λ n. take n path) i.innermost ∙ ap (take (length i.way)) i.whole ∙ way_of i.way i.rest i.number

    pub statement_is : statement_round m path ≡ Some i.number
    statement_is = ap (slice_get path) i.innermost ∙ ap (λ (xs : List ℕ). slice_get xs (length i.way)) i.whole ∙ number_at i.way i.rest i.number

    -- the part, from the statements of the sequence on
    pub leads_from : part_among (statement_trees i.sequence.statements) (i.number ∷ i.rest) ≡ Some c
    leads_from = ap (option_and_then (λ x. part_at x i.rest)) i.stands ∙ i.leads

    -- there is known what is known in the sequence
    pub known_there : (zs : List Known) → known_among i.sequence.statements (i.number ∷ i.rest) zs ≡ zs
    known_there zs =
        ap (λ (o : Option (TreeOf Text)). unwrap_or (option_map (λ x. known_by (entered 1 x i.rest) ++ zs) o) zs) i.stands
        ∙ ap (λ xs. known_by xs ++ zs) (i.plain 1)

    pub part_there : IsProperSequence i.known i.parameters i.sequence → IsProper (known_names i.parameters i.sequence.temporaries ++ i.known) c
    part_there p =
        subst (λ zs. IsProper zs c) (known_there (known_names i.parameters i.sequence.temporaries ++ i.known))
        (part_of_statements (i.number ∷ i.rest) (known_names i.parameters i.sequence.temporaries ++ i.known) i.sequence.statements c p.statements leads_from)
