-- Where steps are stuck, by steps on trees over numbers.
use Rattle.std.proofs.Common.{◌≡◌, ℕ, suc, Bool, true, false, List, [], ◌∷◌, Option, Some, None, refl, sym, ap, ◌∙◌, true≢false}
use Rattle.std.specs.Prelude.{IsTrue, ◌↔◌, if◌then◌else◌}
use Rattle.std.specs.Option.{option_map_or}
use Rattle.std.proofs.lemmas.Bool.{false≢true}
use Rattle.rb_base.specs.Names.{name_at, text_eq, HasNoTwice}
use Rattle.tree_model.specs.Tree.{TreeOf, SequenceOf, map_names}
use Rattle.tree_model.specs.Bare.{bare}
use Rattle.tree_model.proofs.BareLemmas.{bare-map_names}
use Rattle.same_trees.specs.SameTrees.{same_tree}
use Rattle.same_trees.proofs.Told.{text_told, tree_told, tree_same}
use Rattle.same_trees.proofs.Named.{tree_mapped}
use Rattle.event_trees.specs.Naming.{Grows}
use Rattle.certified_model.specs.Marks.{Text, Mark, is_same_mark}
use Rattle.certified_model.specs.Certificates.{CertStep, take_step, stuck_from}
use Rattle.certified_rules.proofs.MarkWords.{mark_words_are}
use Rattle.text_steps.specs.MarkTexts.{mark_in}
use Rattle.derivations.specs.Numbered.{Table}
use Rattle.derivations.specs.Words.{number_at}
use Rattle.derivations.specs.Taken.{only, IsTable, mark_at, marks_of, AreKnown, IsTakenFrom}
use Rattle.derivations.proofs.MarkTexts.{texts, is_naming}
use Rattle.derivations.proofs.Growing.{same_marks}
use Rattle.derivations.proofs.Numbers.{tree_back}
use Rattle.derivations.proofs.TurnedMarks.{marks_are}

-- trees are the same over marks if they are over numbers
module _ (names : List Text) (distinct : HasNoTwice names) (table : Table) (h : IsTable names table) (a b : TreeOf ℕ) (k : AreKnown names a) (l : AreKnown names b) where
  abbrev text : TreeOf ℕ → TreeOf Text
  text t = map_names (name_at names) t

  abbrev mark : Text → Mark
  mark = mark_in (texts names distinct table h)

  over_texts : same_tree is_same_mark (marks_of names table a) (marks_of names table b) ≡ same_tree text_eq (text a) (text b)
  over_texts =
      (λ i. same_tree is_same_mark (sym (marks_are names distinct table h a k) i) (sym (marks_are names distinct table h b l) i))
      ∙ tree_mapped mark is_same_mark (text a) (text b)
      ∙ (λ i. same_tree (λ t u. sym ((is_naming names distinct table h).same t u) i) (text a) (text b))

  from_texts : bare (text a) ≡ bare (text b) → bare a ≡ bare b
  from_texts e =
      ap bare (sym (tree_back names distinct a k))
      ∙ bare-map_names (number_at names) (text a)
      ∙ ap (map_names (number_at names)) e
      ∙ sym (bare-map_names (number_at names) (text b))
      ∙ ap bare (tree_back names distinct b l)

  pub marks_told : same_tree is_same_mark (marks_of names table a) (marks_of names table b) ≡ true → bare a ≡ bare b
  marks_told e = from_texts (tree_told text_eq text_told (text a) (text b) (sym over_texts ∙ e))

  pub marks_same : bare a ≡ bare b → same_tree is_same_mark (marks_of names table a) (marks_of names table b) ≡ true
  marks_same e =
      tree_same is_same_mark mark_words_are.refl (marks_of names table a) (marks_of names table b)
      (bare-map_names (mark_at names table) a ∙ ap (map_names (mark_at names table)) e ∙ sym (bare-map_names (mark_at names table) b))

-- steps are taken up to a tree, and all are stuck where the others are on the way from it
pub record IsReached (names : List Text) (table : Table) (n : ℕ) (xs : List CertStep) (last : TreeOf ℕ) (now : SequenceOf ℕ) (all : Option ℕ) : Type 0 where
  pub tree : TreeOf ℕ
  pub is : now ≡ only tree
  pub known : AreKnown names tree
  pub rest : stuck_from n xs (marks_of names table last) (marks_of names table tree) ≡ all

module _ {names later : List Text} (g : Grows names later) (distinct : HasNoTwice names) (table : Table) (h : IsTable names table) (n : ℕ) (x : CertStep) (xs : List CertStep) (last : TreeOf ℕ) (k : AreKnown names last) (all : Option ℕ) (before after : SequenceOf ℕ) (r : IsReached names table n (x ∷ xs) last before all) where
  taken : (o : Option (TreeOf Mark)) → take_step x (marks_of names table r.tree) ≡ o → option_map_or (stuck_from (suc n) xs (marks_of names table last)) o (Some n) ≡ all
  taken o e = ap (λ (p : Option (TreeOf Mark)). option_map_or (stuck_from (suc n) xs (marks_of names table last)) p (Some n)) (sym e) ∙ r.rest

  -- a step applies
  pub reached_on : IsTakenFrom names later table x r.tree after true → IsReached later table (suc n) xs last after all
  reached_on m = record {
    tree = m.tree;
    is = m.is;
    known = m.known;
    rest = ap (λ (t : TreeOf Mark). stuck_from (suc n) xs t (marks_of later table m.tree)) (same_marks g distinct table h last k) ∙ taken (Some (marks_of later table m.tree)) m.made;
  }

  -- it does not
  pub reached_none : IsTakenFrom names later table x r.tree after false → Some n ≡ all
  reached_none e = taken None e

-- all steps are taken
pub reached_end : (names : List Text) (distinct : HasNoTwice names) (table : Table) (h : IsTable names table) (n : ℕ) (last : TreeOf ℕ) (k : AreKnown names last) (all : Option ℕ) (now : SequenceOf ℕ)
    (r : IsReached names table n [] last now all) (b : Bool) → (IsTrue b ↔ (bare last ≡ bare r.tree)) → (if b then None else Some n) ≡ all
reached_end names distinct table h n last k all now r b e = by b e (same_tree is_same_mark (marks_of names table last) (marks_of names table r.tree)) refl
  where
    by : (b : Bool) → (IsTrue b ↔ (bare last ≡ bare r.tree)) → (c : Bool) → same_tree is_same_mark (marks_of names table last) (marks_of names table r.tree) ≡ c → (if b then None else Some n) ≡ all
    by true f true s = ap (λ (c : Bool). if c then None else Some n) (sym s) ∙ r.rest
    by false f false s = ap (λ (c : Bool). if c then None else Some n) (sym s) ∙ r.rest
    by true f false s = let bad : true ≡ false = sym (marks_same names distinct table h last r.tree k r.known (f.0 refl)) ∙ s in absurd (true≢false bad)
    by false f true s = absurd (false≢true (f.1 (marks_told names distinct table h last r.tree k r.known s)))
