-- The tree that the events of a sequence or method build is that of the text.
use Rattle.std.proofs.Common.{◌≡◌, ℕ, ◌<◌, IsTrue, List, [], length, map, Option, Some, None, slice_get, refl, sym, ap, subst, ◌∙◌}
use Rattle.std.specs.Prelude.{is_some, unwrap_or}
use Rattle.std.proofs.lemmas.Option.{slice_get_within}
use Rattle.tree_model.specs.Tree.{map_sequence, map_method}
use Rattle.tree_model.specs.AllNames.{SequenceNames, MethodNames}
use Rattle.tree_model.specs.Normal.{normal}
use Rattle.tree_model.proofs.MapNames.{map_sequence-id, map_method-id, map_sequence-map_sequence, map_method-map_method}
use Rattle.tree_model.proofs.AllNamesLemmas.{SequenceNames-implies, MethodNames-implies, SequenceNames-map_sequence, MethodNames-map_method, SequenceNames-map_sequence_back, MethodNames-map_method_back}
use Rattle.tree_model.proofs.NormalLemmas.{normal-map_method}
use Rattle.grammar_model.specs.Terminal.{Text}
use Rattle.grammar_model.specs.Spanned.{SpannedSequence, SpannedMethod, names_of, plain_sequence, plain_method}
use Rattle.rb_base.specs.Names.{name_at}
use Rattle.parse_events.specs.declared.event.SequenceEvents.{SequenceEvents}
use Rattle.parse_events.specs.declared.event.MethodEvents.{MethodEvents}
use Rattle.parse_events.specs.Found.{sequence_events, method_events}
use Rattle.st_tree.specs.declared.tree.Sequence.{Sequence}
use Rattle.st_tree.specs.declared.tree.Method.{Method}
use Rattle.st_tree.specs.View.{sequence_of, method_of}
use Rattle.event_trees.specs.Stacks.{declared_by}
use Rattle.event_trees.specs.Naming.{Grows, Adds, AllPass}
use Rattle.event_trees.specs.Trees.{sequence_in, method_in, SequenceIs, MethodIs, found_names, method_names}
use Rattle.event_trees.proofs.Known.{Grows-none, Grows-twice, Adds-fewer, text_stays, texts_stay}
use Rattle.event_trees.proofs.Named.{in_sequence, in_method, each_in_sequence, each_in_method}
use Rattle.event_trees.proofs.Runs.{declared_by-declarations, statements_built}

module _ {N : Type 0} (g : Text → N) where
  -- the events of a sequence build it
  sequence_built : (s : SpannedSequence) → sequence_in g (sequence_events s) ≡ map_sequence g (plain_sequence s)
  sequence_built s = λ i. record { temporaries = declared_by-declarations g s.temporaries i; statements = statements_built g s.statements i; tail = s.tail }

  -- the events of a method build it
  method_built : (m : SpannedMethod) → method_in g (method_events m) ≡ map_method g (plain_method m)
  method_built m =
      (λ i. normal (record { selector = g m.selector; arguments = declared_by-declarations g m.arguments i; head = m.opening; primitive = m.primitive; body = sequence_built m.body i })) ∙
      normal-map_method g (record { selector = m.selector; arguments = names_of m.arguments; head = m.opening; primitive = m.primitive; body = plain_sequence m.body })

-- there is a text
abbrev IsThere : Option Text → Type 0
IsThere o = IsTrue (is_some o)

there_within : (names : List Text) (n : ℕ) → IsThere (slice_get names n) → n < length names
there_within names n h = by (slice_get names n) refl h
  where
    by : (o : Option Text) → slice_get names n ≡ o → IsThere o → n < length names
    by None e h = cc
    by (Some t) e h = slice_get_within names n t e

module _ (names : List Text) (s : SpannedSequence) (body : Sequence) where
  both : SequenceIs names (sequence_events s) body → map_sequence (slice_get names) (sequence_of body) ≡ map_sequence (λ t. Some t) (plain_sequence s)
  both is = is.named names (Grows-none names) ∙ sequence_built (λ t. Some t) s

  -- the sequence of the program is that of the text
  pub sequence_is : SequenceIs names (sequence_events s) body → map_sequence (name_at names) (sequence_of body) ≡ plain_sequence s
  sequence_is is =
      sym (map_sequence-map_sequence (λ o. unwrap_or o []) (slice_get names) (sequence_of body)) ∙ ap (map_sequence (λ o. unwrap_or o [])) (both is) ∙ map_sequence-map_sequence (λ o. unwrap_or o []) (λ t. Some t) (plain_sequence s) ∙
      map_sequence-id (plain_sequence s)

  -- its numbers have texts
  pub sequence_known : SequenceIs names (sequence_events s) body → SequenceNames (λ n. n < length names) (sequence_of body)
  sequence_known is =
      let there = SequenceNames-map_sequence IsThere (λ t. Some t) (plain_sequence s) (each_in_sequence (λ t. IsThere (Some t)) (λ t. refl) (plain_sequence s)) in
      SequenceNames-implies (λ n. IsThere (slice_get names n)) (λ n. n < length names) (there_within names) (sequence_of body)
      (SequenceNames-map_sequence_back IsThere (slice_get names) (sequence_of body) (subst (SequenceNames IsThere) (sym (both is)) there))

module _ (names : List Text) (s : SpannedMethod) (m : Method) where
  both_methods : MethodIs names (method_events s) m → map_method (slice_get names) (method_of m) ≡ map_method (λ t. Some t) (plain_method s)
  both_methods is = is.named names (Grows-none names) ∙ method_built (λ t. Some t) s

  -- the method of the program is that of the text
  pub method_is : MethodIs names (method_events s) m → map_method (name_at names) (method_of m) ≡ plain_method s
  method_is is =
      sym (map_method-map_method (λ o. unwrap_or o []) (slice_get names) (method_of m)) ∙ ap (map_method (λ o. unwrap_or o [])) (both_methods is) ∙ map_method-map_method (λ o. unwrap_or o []) (λ t. Some t) (plain_method s) ∙
      map_method-id (plain_method s)

  -- its numbers have texts
  pub method_known : MethodIs names (method_events s) m → MethodNames (λ n. n < length names) (method_of m)
  method_known is =
      let there = MethodNames-map_method IsThere (λ t. Some t) (plain_method s) (each_in_method (λ t. IsThere (Some t)) (λ t. refl) (plain_method s)) in
      MethodNames-implies (λ n. IsThere (slice_get names n)) (λ n. n < length names) (there_within names) (method_of m)
      (MethodNames-map_method_back IsThere (slice_get names) (method_of m) (subst (MethodNames IsThere) (sym (both_methods is)) there))

-- the names that come are those of the sequence
pub sequence_adds : {names later : List Text} (s : SpannedSequence) → Adds names later (AllPass (found_names (sequence_events s))) → Adds names later (λ p. SequenceNames (λ t. IsTrue (p t)) (plain_sequence s))
sequence_adds s a = Adds-fewer (λ p h. in_sequence p s h) a

-- the names that come are those of the method
pub method_adds : {names later : List Text} (s : SpannedMethod) → Adds names later (AllPass (method_names (method_events s))) → Adds names later (λ p. MethodNames (λ t. IsTrue (p t)) (plain_method s))
method_adds s a = Adds-fewer (λ p h. in_method p s h) a

-- the normal form of the method with these parts is that of the events
pub method_normal : (names : List Text) (found : MethodEvents) (n : ℕ) (ids : List ℕ) (body : Sequence) (m : Method) → slice_get names n ≡ Some found.selector → map (slice_get names) ids ≡ declared_by (λ t. Some t) found.arguments → SequenceIs names found.body body → method_of m ≡ normal (record { selector = n; arguments = ids; head = found.opening; primitive = found.primitive; body = sequence_of body }) → MethodIs names found m
method_normal names found n ids body m e d is same = record {
  named = λ final g.
      ap (map_method (slice_get final)) same ∙
      sym (normal-map_method (slice_get final) (record { selector = n; arguments = ids; head = found.opening; primitive = found.primitive; body = sequence_of body })) ∙
      (λ i. normal (record { selector = text_stays n found.selector g e i; arguments = texts_stay ids found.arguments g d i; head = found.opening; primitive = found.primitive; body = is.named final g i }));
}

-- a sequence stays that of its events where names are added
pub SequenceIs-grows : {names later : List Text} (found : SequenceEvents) (body : Sequence) → Grows names later → SequenceIs names found body → SequenceIs later found body
SequenceIs-grows found body p is = record { named = λ final g. is.named final (Grows-twice p g) }
