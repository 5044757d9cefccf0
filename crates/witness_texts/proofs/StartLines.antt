-- The lines of what a code tells.
use Rattle.std.proofs.Common.{◌≡◌, ℕ, suc, ◌+◌, ◌<◌, List, [], ◌∷◌, ◌++◌, map, take, length, get_or, sym, ap, subst, ◌∙◌, arith}
use Rattle.std.specs.Prelude.{codes}
use Rattle.std.proofs.Math.Seq.{take-suc}
use Rattle.std.proofs.lemmas.List.{map-append}
use Rattle.rb_base.specs.Names.{name_at}
use Rattle.image_model.specs.Image.{ImageOf}
use Rattle.image_model.specs.Means.{MeaningOf}
use Rattle.query_model.specs.Lines.{Text, node_line}
use Rattle.command_model.specs.Parts.{Part, Expression}
use Rattle.class_table.specs.Slots.{Slots}
use Rattle.class_table.specs.View.{image_of}
use Rattle.class_table.specs.Valid.{IsOrderly}
use Rattle.refusal_witnesses.specs.Witnesses.{WitnessOf, APart, AWhole, TwoMeanings}
use Rattle.refusal_witnesses.specs.Lines.{IsLine, part_line, kernel_line, whole_line, meanings_line, kernel_meanings_line, AreLines, no_lines, more_lines, line_of, name_line, meanings_text}
use Rattle.witness_lists.specs.declared.witness.Owner.{Owner}
use Rattle.witness_lists.specs.declared.witness.Witness.{Witness}
use Rattle.witness_lists.specs.Views.{shown, witness_of}
use Rattle.witness_numbers.specs.MappedWitnesses.{map_witness}
use Rattle.witness_texts.specs.declared.code.Code.{Code}
use Rattle.witness_texts.specs.Code.{IsCodeOf, IsStart, users_start, kernel_start, whole_title}
use Rattle.witness_texts.proofs.OwnerLines.{owner_there, OwnerTold, owner-told}

module _ (s : Slots) (orderly : IsOrderly s) (o : Owner) (c : Code) (told : IsCodeOf s o c) where
  abbrev facts : OwnerTold s orderly o c
  facts = owner-told s orderly o c told

  pub whole-line : (text : Text) → text ≡ line_of (whole_title s.names s.classes c) → IsLine (image_of s) (AWhole (owner_there s orderly o)) text
  whole-line text e = subst (IsLine (image_of s) (AWhole (owner_there s orderly o))) (ap line_of facts.whole ∙ sym e) whole_line

  pub part-line : (part : Part) (start text : Text) → IsStart s.names s.classes c part start → text ≡ start ++ codes "\n" → IsLine (image_of s) (APart (owner_there s orderly o) part) text
  part-line part start text (users_start span user stands is) e =
      subst (IsLine (image_of s) (APart (owner_there s orderly o) part))
      (ap (λ (t : Text). node_line t span) facts.title
      ∙ sym (e ∙ ap (λ (x : Text). x ++ codes "\n") is))
      (part_line span (facts.users ∙ user) (facts.stands part span stands))
  part-line part start text (kernel_start kernel is) e =
      subst (IsLine (image_of s) (APart (owner_there s orderly o) part)) (ap line_of facts.whole ∙ sym (e ∙ ap (λ (x : Text). x ++ codes "\n") is)) (kernel_line (facts.users ∙ kernel))

  pub meanings-line : (path : List ℕ) (start text n : Text) (one other : MeaningOf Text) → IsStart s.names s.classes c (Expression path) start → text ≡ line_of (start ++ codes " " ++ meanings_text n one other)
      → IsLine (image_of s) (TwoMeanings (owner_there s orderly o) path n one other) text
  meanings-line path start text n one other (users_start span user stands is) e =
      subst (IsLine (image_of s) (TwoMeanings (owner_there s orderly o) path n one other))
      (ap (λ (t : Text). name_line t span (meanings_text n one other)) facts.title
      ∙ sym (e ∙ ap (λ (x : Text). line_of (x ++ codes " " ++ meanings_text n one other)) is))
      (meanings_line span (facts.users ∙ user) (facts.stands (Expression path) span stands))
  meanings-line path start text n one other (kernel_start kernel is) e =
      subst (IsLine (image_of s) (TwoMeanings (owner_there s orderly o) path n one other))
      (ap (λ (t : Text). line_of (t ++ codes " " ++ meanings_text n one other)) facts.whole
      ∙ sym (e ∙ ap (λ (x : Text). line_of (x ++ codes " " ++ meanings_text n one other)) is))
      (kernel_meanings_line (facts.users ∙ kernel))

-- one more line
pub one-more : (i : ImageOf Text) (xs : List (WitnessOf Text)) (texts : List Text) (x : WitnessOf Text) (text : Text) → AreLines i xs texts → IsLine i x text → AreLines i (xs ++ x ∷ []) (texts ++ text ∷ [])
one-more i [] [] x text no_lines l = more_lines l no_lines
one-more i [] (t ∷ ts) x text ks l = elim ks [ ]
one-more i (y ∷ ys) [] x text ks l = elim ks [ ]
one-more i (y ∷ ys) (t ∷ ts) x text (more_lines k ks) l = more_lines k (one-more i ys ts x text ks l)

module _ (s : Slots) where
  -- the witnesses of a list, over texts
  abbrev pub over_texts : List Witness → List (WitnessOf Text)
  over_texts ws = map (map_witness (name_at s.names)) (shown s ws)

  -- the lines of one more witness of a list
  pub next-line : (ws : List Witness) (k : ℕ) (w : Witness) (texts : List Text) (text : Text) → k < length ws → w ≡ get_or ws k w
      → AreLines (image_of s) (over_texts (take k ws)) texts → IsLine (image_of s) (map_witness (name_at s.names) (witness_of s w)) text
      → AreLines (image_of s) (over_texts (take (k + 1) ws)) (texts ++ text ∷ [])
  next-line ws k w texts text within is lines line =
      let next : suc k ≡ k + 1 = omega arith in
      let taken : take k ws ++ w ∷ [] ≡ take (k + 1) ws =
      ap (λ (x : Witness). take k ws ++ x ∷ []) is ∙ sym (take-suc ws k w within) ∙ ap (λ (n : ℕ). take n ws) next in
      subst (λ (xs : List (WitnessOf Text)). AreLines (image_of s) xs (texts ++ text ∷ []))
      (sym (ap (map (map_witness (name_at s.names))) (map-append (witness_of s) (take k ws) (w ∷ [])) ∙ map-append (map_witness (name_at s.names)) (shown s (take k ws)) (witness_of s w ∷ []))
      ∙ ap over_texts taken)
      (one-more (image_of s) (over_texts (take k ws)) texts (map_witness (name_at s.names) (witness_of s w)) text lines line)
