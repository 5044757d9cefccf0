-- The change of the code at a place by a rule, whatever names come later.
use Rattle.std.proofs.Common.{◌≡◌, ◌⊎◌, inl, inr, ℕ, ◌<◌, Bool, true, false, not, ◌&&◌, List, [], length, Option, None, Some, slice_get, refl, sym, ap, subst, ◌∙◌, true≢false}
use Rattle.std.specs.Prelude.{if◌then◌else◌, nat_eq}
use Rattle.std.specs.List.{concat, list_any}
use Rattle.rb_base.specs.Names.{name_at, text_eq, HasNoTwice}
use Rattle.query_model.specs.Lines.{Text}
use Rattle.tree_model.specs.Tree.{SequenceOf, MethodOf, map_sequence, map_method}
use Rattle.tree_model.specs.AllNames.{SequenceNames, MethodNames}
use Rattle.tree_model.proofs.AllNamesLemmas.{map_sequence-same, map_method-same, SequenceNames-implies, MethodNames-implies}
use Rattle.st_tree.specs.View.{method_of, method_from, sequence_of, sequence_from}
use Rattle.st_tree.specs.declared.tree.Sequence.{Sequence}
use Rattle.st_tree.specs.declared.tree.Method.{Method}
use Rattle.st_tree.proofs.Back.{method_from-method_of, sequence_from-sequence_of}
use Rattle.text_model.specs.Whole.{canonical_method, canonical_doit}
use Rattle.event_trees.specs.Naming.{Grows}
use Rattle.class_table.specs.declared.record.MethodRec.{MethodRec}
use Rattle.class_table.specs.declared.record.DoIt.{DoIt}
use Rattle.class_table.specs.declared.record.Place.TheVariants as place
use Rattle.class_table.specs.Slots.{Slots}
use Rattle.class_table.specs.View.{live_at}
use Rattle.change_set.specs.declared.change.Change.TheVariants as change
use Rattle.pattern_model.specs.Words.{text_pattern_words}
use Rattle.pattern_model.specs.Rewritten.{rewritten_sequence}
use Rattle.patterns.specs.declared.tree.Rule.{Rule}
use Rattle.rewrite_model.specs.Notes.{equal_sequence}
use Rattle.remade_plans.specs.Remade.{change_at, method_rec_after, doit_rec_after}
use Rattle.remade_plans.proofs.RemadeCode.{method-gives, doit-gives, no-method_gives, no-doit_gives}
use Rattle.image_rewriting.specs.Changed.{KnowsRule, Becomes, IsMade}
use Rattle.image_rewriting.specs.Planned.{place_of, renamed, text_after, number_after, is_changed, remaking, HasNumbers, IsFound}
use Rattle.image_rewriting.proofs.Equal.{back}
use Rattle.image_rewriting.proofs.Grown.{longer}
use Rattle.image_rewriting.proofs.SameRule.{name-stays, same-rule}

-- a rule and a body over a table of names, and over a later one
module _ (names later : List Text) (r : Rule) (knows : KnowsRule names r) (grows : Grows names later) where
  abbrev IsKnown : ℕ → Type 0
  IsKnown n = n < length names

  abbrev IsKnownLater : ℕ → Type 0
  IsKnownLater n = n < length later

  text_same : (b : SequenceOf ℕ) → SequenceNames IsKnown b → map_sequence (name_at later) b ≡ map_sequence (name_at names) b
  text_same b known = map_sequence-same (name_at later) (name_at names) b (SequenceNames-implies IsKnown (λ n. name_at later n ≡ name_at names n) (name-stays names later grows) b known)

  after_same : (b : SequenceOf ℕ) → SequenceNames IsKnown b → text_after later r b ≡ text_after names r b
  after_same b known = λ i. rewritten_sequence text_pattern_words concat (same-rule names later r grows knows i) (text_same b known i)

  changed_same : (b : SequenceOf ℕ) → SequenceNames IsKnown b → is_changed later r b ≡ is_changed names r b
  changed_same b known = λ i. not (equal_sequence text_eq (text_same b known i) (after_same b known i))

  -- an equal body is made of a body
  pub still-equal : (b : Sequence) → SequenceNames IsKnown (sequence_of b) → Becomes names r b None → is_changed later r (sequence_of b) ≡ false
  still-equal b known e = changed_same (sequence_of b) known ∙ ap not e

  -- another body is
  module _ (once : HasNoTwice later) (b c : Sequence) (known : SequenceNames IsKnown (sequence_of b)) (is : IsMade names r b c) where
    pub still-other : is_changed later r (sequence_of b) ≡ true
    still-other = changed_same (sequence_of b) known ∙ ap not is.other

    made_later : map_sequence (name_at later) (sequence_of c) ≡ text_after later r (sequence_of b)
    made_later = text_same (sequence_of c) is.known ∙ is.made ∙ sym (after_same (sequence_of b) known)

    also_known : SequenceNames IsKnownLater (sequence_of c)
    also_known = SequenceNames-implies IsKnown IsKnownLater (longer names later grows) (sequence_of c) is.known

    pub number-made : number_after later r (sequence_of b) ≡ sequence_of c
    number-made = ap (map_sequence (place_of later)) (sym made_later) ∙ back later once (sequence_of c) also_known

    pub has-numbers : HasNumbers later r (sequence_of b)
    has-numbers = record {
      texts = ap (map_sequence (name_at later)) number-made ∙ made_later;
      known = subst (SequenceNames IsKnownLater) (sym number-made) also_known;
    }

and_false : (b : Bool) → (b && false) ≡ false
and_false true = refl
and_false false = refl

-- the method in a slot
module _ (s : Slots) (names : List Text) (r : Rule) (knows : KnowsRule names r) (k : ℕ) where
  abbrev held : Option MethodRec
  held = live_at s.methods s.method_order k

  -- what is wanted of a method that stays
  abbrev pub Stays : MethodRec → Type 0
  Stays m = (m.kernel ≡ true) ⊎ (SequenceNames (λ n. n < length names) (sequence_of m.tree.body) × Becomes names r m.tree.body None)

  stays_later : (later : List Text) → Grows names later → (m : MethodRec) → Stays m → (not m.kernel && is_changed later r (sequence_of m.tree.body)) ≡ false
  stays_later later g m (inl kernel) = ap (λ (b : Bool). not b && is_changed later r (sequence_of m.tree.body)) kernel
  stays_later later g m (inr still) = ap (λ (b : Bool). not m.kernel && b) (still-equal names later r knows g m.tree.body still.0 still.1) ∙ and_false (not m.kernel)

  -- no change
  pub method-none : ((m : MethodRec) → held ≡ Some m → Stays m) → IsFound s names r (place.Method k) None
  method-none stays = record {
    change = λ later g once. none later g held refl;
    numbers = λ later g once m is user e. absurd (true≢false (sym (λ i. not (user i) && e i) ∙ stays_later later g m (stays m is)));
  }
    where
      none : (later : List Text) → Grows names later → (o : Option MethodRec) → held ≡ o → None ≡ change_at (renamed s later) (remaking later r) (place.Method k)
      none later g None e = no-method_gives (renamed s later) (remaking later r) k e
      none later g (Some m) e = sym (method-gives (renamed s later) (remaking later r) k m e false (stays_later later g m (stays m e)))

  -- a change
  module _ (m copied : MethodRec) (is : held ≡ Some m) (user : m.kernel ≡ false) (same : copied ≡ record m { source = [] }) (known : MethodNames (λ n. n < length names) (method_of m.tree)) (c : Sequence) (made : IsMade names r m.tree.body c) (source : Text)
      (text : source ≡ canonical_method (map_method (name_at names) (method_of (record copied.tree { body = c })))) where
    tree_known : MethodNames (λ n. n < length names) (method_of (record m.tree { body = c }))
    tree_known = record { selector = known.selector; arguments = known.arguments; body = made.known }

    module _ (later : List Text) (g : Grows names later) (once : HasNoTwice later) where
      numbers_are : number_after later r (sequence_of m.tree.body) ≡ sequence_of c
      numbers_are = number-made names later r knows g once m.tree.body c known.body made

      like : record m.tree { body = c } ≡ method_from (record (method_of m.tree) { body = number_after later r (sequence_of m.tree.body) })
      like = sym (method_from-method_of (record m.tree { body = c })) ∙ ap (λ (b : SequenceOf ℕ). let t : MethodOf ℕ = record (method_of m.tree) { body = b } in method_from t) (sym numbers_are)

      spelled : source ≡ canonical_method (map_method (name_at later) (record (method_of m.tree) { body = number_after later r (sequence_of m.tree.body) }))
      spelled =
          text
          ∙ ap (λ (x : MethodRec). canonical_method (map_method (name_at names) (method_of (record x.tree { body = c })))) same
          ∙ ap canonical_method (sym (map_method-same (name_at later) (name_at names) (method_of (record m.tree { body = c }))
          (MethodNames-implies (λ n. n < length names) (λ n. name_at later n ≡ name_at names n) (name-stays names later g) (method_of (record m.tree { body = c })) tree_known)))
          ∙ ap (λ (b : SequenceOf ℕ). let t : MethodOf ℕ = record (method_of m.tree) { body = b } in canonical_method (map_method (name_at later) t)) (sym numbers_are)

      remade : (not m.kernel && is_changed later r (sequence_of m.tree.body)) ≡ true
      remade = λ i. not (user i) && still-other names later r knows g once m.tree.body c known.body made i

      gives : Some (change.Method k (record copied { tree = record copied.tree { body = c }; source = source })) ≡ change_at (renamed s later) (remaking later r) (place.Method k)
      gives =
          ap (λ (x : MethodRec). let rec : MethodRec = record x { tree = record x.tree { body = c }; source = source } in Some (change.Method k rec)) same
          ∙ (λ i. let rec : MethodRec = record m { tree = like i; source = spelled i } in Some (change.Method k rec))
          ∙ sym (method-gives (renamed s later) (remaking later r) k m is true remade)

      numbered : (n : MethodRec) → held ≡ Some n → HasNumbers later r (sequence_of n.tree.body)
      numbered n e = let both : m ≡ n = some (sym is ∙ e) in subst (λ (x : MethodRec). HasNumbers later r (sequence_of x.tree.body)) both (has-numbers names later r knows g once m.tree.body c known.body made)
        where
          some : {a b : MethodRec} → Some a ≡ Some b → a ≡ b
          some q = cc

    pub method-some : IsFound s names r (place.Method k) (Some (change.Method k (record copied { tree = record copied.tree { body = c }; source = source })))
    method-some = record { change = gives; numbers = λ later g once n e user changed. numbered later g once n e }

-- the do-it of a number
module _ (s : Slots) (names : List Text) (r : Rule) (knows : KnowsRule names r) (n : ℕ) where
  abbrev pub StaysDoIt : DoIt → Type 0
  StaysDoIt d = SequenceNames (λ k. k < length names) (sequence_of d.body) × Becomes names r d.body None

  -- no change
  pub doit-none : ((d : DoIt) → slice_get s.doits n ≡ Some d → StaysDoIt d) → IsFound s names r (place.DoIt n) None
  doit-none stays = record {
    change = λ later g once. none later g (slice_get s.doits n) refl;
    numbers = λ later g once d is e. absurd (true≢false (sym e ∙ still later g d (stays d is)));
  }
    where
      still : (later : List Text) → Grows names later → (d : DoIt) → StaysDoIt d → is_changed later r (sequence_of d.body) ≡ false
      still later g d h = still-equal names later r knows g d.body h.0 h.1

      none : (later : List Text) → Grows names later → (o : Option DoIt) → slice_get s.doits n ≡ o → None ≡ change_at (renamed s later) (remaking later r) (place.DoIt n)
      none later g None e = no-doit_gives (renamed s later) (remaking later r) n e
      none later g (Some d) e = sym (doit-gives (renamed s later) (remaking later r) n d e false (still later g d (stays d e)))

  -- a change
  module _ (d : DoIt) (is : slice_get s.doits n ≡ Some d) (known : SequenceNames (λ k. k < length names) (sequence_of d.body)) (c : Sequence) (made : IsMade names r d.body c) (source : Text)
      (text : source ≡ canonical_doit (map_sequence (name_at names) (sequence_of c))) where
    module _ (later : List Text) (g : Grows names later) (once : HasNoTwice later) where
      doit_numbers_are : number_after later r (sequence_of d.body) ≡ sequence_of c
      doit_numbers_are = number-made names later r knows g once d.body c known made

      doit_like : c ≡ sequence_from (number_after later r (sequence_of d.body))
      doit_like = sym (sequence_from-sequence_of c) ∙ ap sequence_from (sym doit_numbers_are)

      doit_spelled : source ≡ canonical_doit (map_sequence (name_at later) (number_after later r (sequence_of d.body)))
      doit_spelled =
          text
          ∙ ap canonical_doit (sym (map_sequence-same (name_at later) (name_at names) (sequence_of c)
          (SequenceNames-implies (λ k. k < length names) (λ k. name_at later k ≡ name_at names k) (name-stays names later g) (sequence_of c) made.known)))
          ∙ ap (λ (b : SequenceOf ℕ). canonical_doit (map_sequence (name_at later) b)) (sym doit_numbers_are)

      doit_gives : Some (change.DoIt n (record { source = source; body = c })) ≡ change_at (renamed s later) (remaking later r) (place.DoIt n)
      doit_gives =
          (λ i. let rec : DoIt = record { source = doit_spelled i; body = doit_like i } in Some (change.DoIt n rec))
          ∙ sym (doit-gives (renamed s later) (remaking later r) n d is true (still-other names later r knows g once d.body c known made))

      doit_numbered : (e : DoIt) → slice_get s.doits n ≡ Some e → HasNumbers later r (sequence_of e.body)
      doit_numbered e there = let both : d ≡ e = some (sym is ∙ there) in subst (λ (x : DoIt). HasNumbers later r (sequence_of x.body)) both (has-numbers names later r knows g once d.body c known made)
        where
          some : {a b : DoIt} → Some a ≡ Some b → a ≡ b
          some q = cc

    pub doit-some : IsFound s names r (place.DoIt n) (Some (change.DoIt n (record { source = source; body = c })))
    doit-some = record { change = doit_gives; numbers = λ later g once e there changed. doit_numbered later g once e there }
