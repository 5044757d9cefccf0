-- The part where a path leads, and a tree with a part replaced.
use Rattle.std.proofs.Common.{◌≡◌, ◌≢◌, ℕ, ◌⊎◌, inl, inr, refl, sym, ◌∙◌, ap, arith, List, [], ◌∷◌, ◌++◌, map, Option, Some, None, option_map, option_and_then, unwrap_or}
use Rattle.std.proofs.lemmas.Bool.{cases_lt}
use Rattle.tree_model.specs.Tree.{Notes, TreeOf, block, StatementsOf, SequenceOf, MethodOf, map_names, map_statements, map_sequence, map_method}
use Rattle.tree_model.specs.Path.{nth, statement_trees, child, part_at, part_among, part_in, with_statement, with_child, replaced, statements_replaced, replaced_in, method_replaced, PartWays}
use Rattle.tree_model.proofs.Children.{child-with_child, child-with_child_other, with_child-with_child, with_child-child, child-map_names, with_child-map_names}

-- two numbers are equal or not
equal_or_apart : (j k : ℕ) → (j ≡ k) ⊎ (j ≢ k)
equal_or_apart j k =
    elim (cases_lt j k) [
      | inl h ↦ inr (λ e. omega arith)
      | inr h ↦ elim (cases_lt k j) [ inl g ↦ inr (λ e. omega arith) | inr g ↦ inl (omega arith) ]
    ]

module _ {N : Type 0} where
  -- where a step leads to c, the rest of a path is replaced in c
  replaced-step : (t c : TreeOf N) (k : ℕ) (ks : List ℕ) (u : TreeOf N) → child t k ≡ Some c → replaced t (k ∷ ks) u ≡ with_child t k (replaced c ks u)
  replaced-step t c k ks u e = ap (λ (o : Option (TreeOf N)). unwrap_or (option_map (λ d. with_child t k (replaced d ks u)) o) t) e

  -- where a step leads nowhere, nothing is replaced
  replaced-no_step : (t : TreeOf N) (k : ℕ) (ks : List ℕ) (u : TreeOf N) → child t k ≡ None → replaced t (k ∷ ks) u ≡ t
  replaced-no_step t k ks u e = ap (λ (o : Option (TreeOf N)). unwrap_or (option_map (λ d. with_child t k (replaced d ks u)) o) t) e

  -- where a step leads to c, the rest of a path leads on from c
  part_at-step : (t c : TreeOf N) (k : ℕ) (ks : List ℕ) → child t k ≡ Some c → part_at t (k ∷ ks) ≡ part_at c ks
  part_at-step t c k ks e = ap (λ (o : Option (TreeOf N)). option_and_then (λ d. part_at d ks) o) e

  -- where a step leads nowhere, the path does
  part_at-no_step : (t : TreeOf N) (k : ℕ) (ks : List ℕ) → child t k ≡ None → part_at t (k ∷ ks) ≡ None
  part_at-no_step t k ks e = ap (λ (o : Option (TreeOf N)). option_and_then (λ d. part_at d ks) o) e

  -- what is put where a path leads is found there
  pub part_at-replaced : (t : TreeOf N) (path : List ℕ) (c u : TreeOf N) → part_at t path ≡ Some c → part_at (replaced t path u) path ≡ Some u
  part_at-replaced t [] c u e = refl
  part_at-replaced t (k ∷ ks) c u found = by (child t k) refl (λ d. part_at-replaced d ks c u)
    where
      by : (o : Option (TreeOf N)) → child t k ≡ o → ((d : TreeOf N) → part_at d ks ≡ Some c → part_at (replaced d ks u) ks ≡ Some u) → part_at (replaced t (k ∷ ks) u) (k ∷ ks) ≡ Some u
      by None e later = let nowhere = part_at-no_step t k ks e in cc
      by (Some d) e later =
          ap (λ (s : TreeOf N). part_at s (k ∷ ks)) (replaced-step t d k ks u e)
          ∙ part_at-step (with_child t k (replaced d ks u)) (replaced d ks u) k ks (child-with_child t k d (replaced d ks u) e)
          ∙ later d (sym (part_at-step t d k ks e) ∙ found)

  -- the last of two replacements counts
  pub replaced-replaced : (t : TreeOf N) (path : List ℕ) (u v : TreeOf N) → replaced (replaced t path u) path v ≡ replaced t path v
  replaced-replaced t [] u v = refl
  replaced-replaced t (k ∷ ks) u v = by (child t k) refl (λ d. replaced-replaced d ks u v)
    where
      by : (o : Option (TreeOf N)) → child t k ≡ o → ((d : TreeOf N) → replaced (replaced d ks u) ks v ≡ replaced d ks v) → replaced (replaced t (k ∷ ks) u) (k ∷ ks) v ≡ replaced t (k ∷ ks) v
      by None e later = ap (λ (s : TreeOf N). replaced s (k ∷ ks) v) (replaced-no_step t k ks u e)
      by (Some d) e later =
          ap (λ (s : TreeOf N). replaced s (k ∷ ks) v) (replaced-step t d k ks u e)
          ∙ replaced-step (with_child t k (replaced d ks u)) (replaced d ks u) k ks v (child-with_child t k d (replaced d ks u) e)
          ∙ with_child-with_child t k (replaced d ks u) (replaced (replaced d ks u) ks v)
          ∙ ap (with_child t k) (later d)
          ∙ sym (replaced-step t d k ks v e)

  -- a part is replaced by itself
  pub replaced-part_at : (t : TreeOf N) (path : List ℕ) (c : TreeOf N) → part_at t path ≡ Some c → replaced t path c ≡ t
  replaced-part_at t [] c found = let same : t ≡ c = cc in sym same
  replaced-part_at t (k ∷ ks) c found = by (child t k) refl (λ d. replaced-part_at d ks c)
    where
      by : (o : Option (TreeOf N)) → child t k ≡ o → ((d : TreeOf N) → part_at d ks ≡ Some c → replaced d ks c ≡ d) → replaced t (k ∷ ks) c ≡ t
      by None e later = replaced-no_step t k ks c e
      by (Some d) e later =
          replaced-step t d k ks c e
          ∙ ap (with_child t k) (later d (sym (part_at-step t d k ks e) ∙ found))
          ∙ with_child-child t k d e

  -- where a path leads nowhere, nothing is replaced
  pub replaced-nowhere : (t : TreeOf N) (path : List ℕ) (u : TreeOf N) → part_at t path ≡ None → replaced t path u ≡ t
  replaced-nowhere t [] u nowhere = cc
  replaced-nowhere t (k ∷ ks) u nowhere = by (child t k) refl (λ d. replaced-nowhere d ks u)
    where
      by : (o : Option (TreeOf N)) → child t k ≡ o → ((d : TreeOf N) → part_at d ks ≡ None → replaced d ks u ≡ d) → replaced t (k ∷ ks) u ≡ t
      by None e later = replaced-no_step t k ks u e
      by (Some d) e later =
          replaced-step t d k ks u e
          ∙ ap (with_child t k) (later d (sym (part_at-step t d k ks e) ∙ nowhere))
          ∙ with_child-child t k d e

  -- a path that parts from the changed one leads to what it led to
  pub part_at-replaced_apart : (t : TreeOf N) (path other : List ℕ) (u : TreeOf N) → PartWays path other → part_at (replaced t path u) other ≡ part_at t other
  part_at-replaced_apart t [] other u apart = absurd apart
  part_at-replaced_apart t (j ∷ js) [] u apart = absurd apart
  part_at-replaced_apart t (j ∷ js) (k ∷ ks) u apart = by (child t j) refl (λ d. part_at-replaced_apart d js ks u)
    where
      by : (o : Option (TreeOf N)) → child t j ≡ o → ((d : TreeOf N) → PartWays js ks → part_at (replaced d js u) ks ≡ part_at d ks) → part_at (replaced t (j ∷ js) u) (k ∷ ks) ≡ part_at t (k ∷ ks)
      by None e later = ap (λ (s : TreeOf N). part_at s (k ∷ ks)) (replaced-no_step t j js u e)
      by (Some d) e later =
          ap (λ (s : TreeOf N). part_at s (k ∷ ks)) (replaced-step t d j js u e)
          ∙ elim (equal_or_apart j k) [
            | inl same ↦
                ap (λ n. part_at (with_child t j (replaced d js u)) (n ∷ ks)) (sym same)
                ∙ part_at-step (with_child t j (replaced d js u)) (replaced d js u) j ks (child-with_child t j d (replaced d js u) e)
                ∙ later d (apart same)
                ∙ sym (part_at-step t d j ks e)
                ∙ ap (λ n. part_at t (n ∷ ks)) same
            | inr differ ↦
                ap (λ (o : Option (TreeOf N)). option_and_then (λ s. part_at s ks) o)
                (child-with_child_other t k j (replaced d js u) (λ same. differ (sym same)))
          ]

  -- a path in two pieces leads where the second leads from where the first leads
  pub part_at-append : (t : TreeOf N) (path rest : List ℕ) → part_at t (path ++ rest) ≡ option_and_then (λ c. part_at c rest) (part_at t path)
  part_at-append t [] rest = refl
  part_at-append t (k ∷ ks) rest = by (child t k) refl (λ d. part_at-append d ks rest)
    where
      by : (o : Option (TreeOf N)) → child t k ≡ o → ((d : TreeOf N) → part_at d (ks ++ rest) ≡ option_and_then (λ c. part_at c rest) (part_at d ks)) → part_at t (k ∷ (ks ++ rest)) ≡ option_and_then (λ c. part_at c rest) (part_at t (k ∷ ks))
      by None e later = part_at-no_step t k (ks ++ rest) e ∙ ap (λ (o : Option (TreeOf N)). option_and_then (λ c. part_at c rest) o) (sym (part_at-no_step t k ks e))
      by (Some d) e later =
          part_at-step t d k (ks ++ rest) e
          ∙ later d
          ∙ ap (λ (o : Option (TreeOf N)). option_and_then (λ c. part_at c rest) o) (sym (part_at-step t d k ks e))

  -- a part of a part is replaced
  pub replaced-append : (t : TreeOf N) (path rest : List ℕ) (c u : TreeOf N) → part_at t path ≡ Some c → replaced t (path ++ rest) u ≡ replaced t path (replaced c rest u)
  replaced-append t [] rest c u found = let same : t ≡ c = cc in ap (λ (s : TreeOf N). replaced s rest u) same
  replaced-append t (k ∷ ks) rest c u found = by (child t k) refl (λ d. replaced-append d ks rest c u)
    where
      by : (o : Option (TreeOf N)) → child t k ≡ o → ((d : TreeOf N) → part_at d ks ≡ Some c → replaced d (ks ++ rest) u ≡ replaced d ks (replaced c rest u)) → replaced t (k ∷ (ks ++ rest)) u ≡ replaced t (k ∷ ks) (replaced c rest u)
      by None e later = let nowhere = part_at-no_step t k ks e in cc
      by (Some d) e later =
          replaced-step t d k (ks ++ rest) u e
          ∙ ap (with_child t k) (later d (sym (part_at-step t d k ks e) ∙ found))
          ∙ sym (replaced-step t d k ks (replaced c rest u) e)

  -- a block's body after the change
  pub replaced-block : (ps ts : List N) (ss : StatementsOf N) (tail : Notes) (k : ℕ) (ks : List ℕ) (u : TreeOf N)
      → replaced (block ps ts ss tail) (k ∷ ks) u ≡ block ps ts (statements_replaced ss (k ∷ ks) u) tail
  replaced-block ps ts ss tail k ks u =
      elim (nth (statement_trees ss) k) as (λ (o : Option (TreeOf N)).
      unwrap_or (option_map (λ c. block ps ts (with_statement ss k (replaced c ks u)) tail) o) (block ps ts ss tail)
      ≡ block ps ts (unwrap_or (option_map (λ c. with_statement ss k (replaced c ks u)) o) ss) tail)
      [ None ↦ refl | Some c ↦ refl ]

-- the statements of a block
abbrev statements_in : {N : Type 0} → TreeOf N → StatementsOf N → StatementsOf N
statements_in (block ps ts ss e) other = ss
statements_in t other = other

-- laws of sequences, each from that of a block with the same statements
module _ {N : Type 0} where
  -- what is put where a path leads is found there
  pub part_in-replaced_in : (b : SequenceOf N) (path : List ℕ) (c u : TreeOf N) → part_in b path ≡ Some c → part_in (replaced_in b path u) path ≡ Some u
  part_in-replaced_in b [] c u found = cc
  part_in-replaced_in b (k ∷ ks) c u found =
      ap (λ (t : TreeOf N). part_at t (k ∷ ks)) (sym (replaced-block [] [] b.statements [] k ks u)) ∙ part_at-replaced (block [] [] b.statements []) (k ∷ ks) c u found

  -- the last of two replacements counts
  pub statements_replaced-statements_replaced : (ss : StatementsOf N) (path : List ℕ) (u v : TreeOf N) → statements_replaced (statements_replaced ss path u) path v ≡ statements_replaced ss path v
  statements_replaced-statements_replaced ss [] u v = refl
  statements_replaced-statements_replaced ss (k ∷ ks) u v =
      ap (λ (t : TreeOf N). statements_in t ss)
      (sym (replaced-block [] [] (statements_replaced ss (k ∷ ks) u) [] k ks v)
      ∙ ap (λ (t : TreeOf N). replaced t (k ∷ ks) v) (sym (replaced-block [] [] ss [] k ks u))
      ∙ replaced-replaced (block [] [] ss []) (k ∷ ks) u v
      ∙ replaced-block [] [] ss [] k ks v)

  -- a part of statements is replaced by itself
  pub statements_replaced-part_among : (ss : StatementsOf N) (path : List ℕ) (c : TreeOf N) → part_among (statement_trees ss) path ≡ Some c → statements_replaced ss path c ≡ ss
  statements_replaced-part_among ss [] c found = refl
  statements_replaced-part_among ss (k ∷ ks) c found =
      ap (λ (t : TreeOf N). statements_in t ss) (sym (replaced-block [] [] ss [] k ks c) ∙ replaced-part_at (block [] [] ss []) (k ∷ ks) c found)

  -- where a path leads nowhere, no statement changes
  pub statements_replaced-nowhere : (ss : StatementsOf N) (path : List ℕ) (u : TreeOf N) → part_among (statement_trees ss) path ≡ None → statements_replaced ss path u ≡ ss
  statements_replaced-nowhere ss [] u nowhere = refl
  statements_replaced-nowhere ss (k ∷ ks) u nowhere =
      ap (λ (t : TreeOf N). statements_in t ss) (sym (replaced-block [] [] ss [] k ks u) ∙ replaced-nowhere (block [] [] ss []) (k ∷ ks) u nowhere)

  -- the last of two replacements in a sequence counts
  pub replaced_in-replaced_in : (b : SequenceOf N) (path : List ℕ) (u v : TreeOf N) → replaced_in (replaced_in b path u) path v ≡ replaced_in b path v
  replaced_in-replaced_in b path u v = λ i. record b { statements = statements_replaced-statements_replaced b.statements path u v i }

  -- a part of a sequence is replaced by itself
  pub replaced_in-part_in : (b : SequenceOf N) (path : List ℕ) (c : TreeOf N) → part_in b path ≡ Some c → replaced_in b path c ≡ b
  replaced_in-part_in b path c found = λ i. record b { statements = statements_replaced-part_among b.statements path c found i }

  -- where a path leads nowhere, a sequence stays as it is
  pub replaced_in-nowhere : (b : SequenceOf N) (path : List ℕ) (u : TreeOf N) → part_in b path ≡ None → replaced_in b path u ≡ b
  replaced_in-nowhere b path u nowhere = λ i. record b { statements = statements_replaced-nowhere b.statements path u nowhere i }

  -- a path that parts from the changed one leads to what it led to
  pub part_in-replaced_in_apart : (b : SequenceOf N) (path other : List ℕ) (u : TreeOf N) → PartWays path other → part_in (replaced_in b path u) other ≡ part_in b other
  part_in-replaced_in_apart b [] other u apart = absurd apart
  part_in-replaced_in_apart b (j ∷ js) [] u apart = absurd apart
  part_in-replaced_in_apart b (j ∷ js) (k ∷ ks) u apart =
      ap (λ (t : TreeOf N). part_at t (k ∷ ks)) (sym (replaced-block [] [] b.statements [] j js u)) ∙ part_at-replaced_apart (block [] [] b.statements []) (j ∷ js) (k ∷ ks) u apart

-- with the names changed
module _ {M N : Type 0} (f : M → N) where
  -- where a path leads
  pub part_at-map_names : (t : TreeOf M) (path : List ℕ) → part_at (map_names f t) path ≡ option_map (map_names f) (part_at t path)
  part_at-map_names t [] = refl
  part_at-map_names t (k ∷ ks) = by (child t k) refl (λ d. part_at-map_names d ks)
    where
      by : (o : Option (TreeOf M)) → child t k ≡ o → ((d : TreeOf M) → part_at (map_names f d) ks ≡ option_map (map_names f) (part_at d ks))
          → part_at (map_names f t) (k ∷ ks) ≡ option_map (map_names f) (part_at t (k ∷ ks))
      by None e later =
          part_at-no_step (map_names f t) k ks (child-map_names f t k ∙ ap (option_map (map_names f)) e)
          ∙ ap (option_map (map_names f)) (sym (part_at-no_step t k ks e))
      by (Some d) e later =
          part_at-step (map_names f t) (map_names f d) k ks (child-map_names f t k ∙ ap (option_map (map_names f)) e)
          ∙ later d ∙ ap (option_map (map_names f)) (sym (part_at-step t d k ks e))

  -- a part is replaced
  pub replaced-map_names : (t : TreeOf M) (path : List ℕ) (u : TreeOf M) → replaced (map_names f t) path (map_names f u) ≡ map_names f (replaced t path u)
  replaced-map_names t [] u = refl
  replaced-map_names t (k ∷ ks) u = by (child t k) refl (λ d. replaced-map_names d ks u)
    where
      by : (o : Option (TreeOf M)) → child t k ≡ o → ((d : TreeOf M) → replaced (map_names f d) ks (map_names f u) ≡ map_names f (replaced d ks u))
          → replaced (map_names f t) (k ∷ ks) (map_names f u) ≡ map_names f (replaced t (k ∷ ks) u)
      by None e later =
          replaced-no_step (map_names f t) k ks (map_names f u) (child-map_names f t k ∙ ap (option_map (map_names f)) e)
          ∙ ap (map_names f) (sym (replaced-no_step t k ks u e))
      by (Some d) e later =
          replaced-step (map_names f t) (map_names f d) k ks (map_names f u) (child-map_names f t k ∙ ap (option_map (map_names f)) e)
          ∙ ap (with_child (map_names f t) k) (later d)
          ∙ with_child-map_names f t k (replaced d ks u)
          ∙ ap (map_names f) (sym (replaced-step t d k ks u e))

  -- where a path into a sequence leads
  pub part_in-map_sequence : (b : SequenceOf M) (path : List ℕ) → part_in (map_sequence f b) path ≡ option_map (map_names f) (part_in b path)
  part_in-map_sequence b [] = refl
  part_in-map_sequence b (k ∷ ks) = part_at-map_names (block [] [] b.statements []) (k ∷ ks)

  -- a part of statements is replaced
  pub statements_replaced-map_statements : (ss : StatementsOf M) (path : List ℕ) (u : TreeOf M)
      → statements_replaced (map_statements f ss) path (map_names f u) ≡ map_statements f (statements_replaced ss path u)
  statements_replaced-map_statements ss [] u = refl
  statements_replaced-map_statements ss (k ∷ ks) u =
      ap (λ (t : TreeOf N). statements_in t (map_statements f ss))
      (sym (replaced-block [] [] (map_statements f ss) [] k ks (map_names f u))
      ∙ replaced-map_names (block [] [] ss []) (k ∷ ks) u
      ∙ ap (map_names f) (replaced-block [] [] ss [] k ks u))

  -- a part of a sequence is replaced
  pub replaced_in-map_sequence : (b : SequenceOf M) (path : List ℕ) (u : TreeOf M) → replaced_in (map_sequence f b) path (map_names f u) ≡ map_sequence f (replaced_in b path u)
  replaced_in-map_sequence b path u = λ i. record { temporaries = map f b.temporaries; statements = statements_replaced-map_statements b.statements path u i; tail = b.tail }

  -- a part of a method is replaced
  pub method_replaced-map_method : (m : MethodOf M) (path : List ℕ) (u : TreeOf M) → method_replaced (map_method f m) path (map_names f u) ≡ map_method f (method_replaced m path u)
  method_replaced-map_method m path u =
      λ i. record { selector = f m.selector; arguments = map f m.arguments; head = m.head; primitive = m.primitive; body = replaced_in-map_sequence m.body path u i }
