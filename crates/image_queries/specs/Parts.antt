-- The texts of single methods and do-its, and of all of them.
use Rattle.std.specs.Prelude.{◌≡◌, ℕ, ◌+◌, List, [], ◌∷◌, ◌++◌, codes, true, false, Bool, not, nat_eq, ◌&&◌, if◌then◌else◌, unwrap_or}
use Rattle.std.specs.Option.{option_map, option_map_or, ForSome}
use Rattle.std.specs.Fmt.{decimal}
use Rattle.rb_base.specs.Names.{name_at}
use Rattle.token_model.specs.declared.kind.Dialect.TheVariants.{Second}
use Rattle.grammar_model.specs.Spanned.{SpannedSequence, SpannedMethod}
use Rattle.grammar_model.specs.Spelling.{SpellsDoItAt, SpellsMethodAt}
use Rattle.event_spans.specs.Answers.{sequence_spans}
use Rattle.st_tree.specs.View.{statements_of, method_of, sequence_of}
use Rattle.class_table.specs.declared.record.ClassRec.{ClassRec}
use Rattle.class_table.specs.declared.record.MethodRec.{MethodRec}
use Rattle.class_table.specs.declared.record.DoIt.{DoIt}
use Rattle.class_table.specs.Slots.{Slots}
use Rattle.class_table.specs.View.{live_at, class_name}
use Rattle.query_model.specs.Queries.{QueryOf}
use Rattle.image_queries.specs.Asked.{mentions, is_meant, meaning_in_tree, meaning_in_body}
use Rattle.image_queries.specs.Marks.{statements_marks, marked_lines}

-- the title of a method from its class, its side and its selector
abbrev pub title_of : List (List ℕ) → List ClassRec → ℕ → Bool → ℕ → List ℕ
title_of names classes class meta selector =
    unwrap_or (option_map (name_at names) (class_name classes class)) [] ++ (if meta then codes " class>>" else codes ">>") ++ name_at names selector

-- The lines of the nodes of a method that are asked for. The kernel's have none; those of a user are told for each tree with places that the source spells, of which there is at most one.
pub record IsMethodText (s : Slots) (q : QueryOf ℕ) (text : List ℕ) (m : MethodRec) : Type 0 where
  pub kernel : m.kernel ≡ true → text ≡ []
  pub user : m.kernel ≡ false → (tree : SpannedMethod) → SpellsMethodAt Second false m.source tree
      → text ≡ marked_lines (λ path. is_meant q (meaning_in_tree s m.class m.meta (method_of m.tree) path)) (title_of s.names s.classes m.class m.meta m.tree.selector) (sequence_spans tree.body) (statements_marks (mentions q) (statements_of m.tree.body.statements))

-- the same of the do-it of a number
abbrev pub IsDoItText : Slots → QueryOf ℕ → ℕ → DoIt → List ℕ → Type 0
IsDoItText s q number d text =
    (tree : SpannedSequence) → SpellsDoItAt Second d.source tree
    → text ≡ marked_lines (λ path. is_meant q (meaning_in_body s (sequence_of d.body) path)) (codes "doit " ++ decimal (number + 1)) (sequence_spans tree) (statements_marks (mentions q) (statements_of d.body.statements))

-- the text is that of the items, one behind the other, where an item's text depends on its place too
abbrev pub AreTexts : {X : Type 0} → (ℕ → X → List ℕ → Type 0) → ℕ → List X → List ℕ → Type 0
AreTexts P place [] text = text ≡ []
AreTexts P place (x ∷ xs) text = (head : List ℕ) × (rest : List ℕ) × P place x head × AreTexts P (place + 1) xs rest × (text ≡ head ++ rest)

-- the text of the method in a slot
abbrev pub IsSlotText : Slots → QueryOf ℕ → ℕ → List ℕ → Type 0
IsSlotText s q slot text = ForSome (live_at s.methods s.method_order slot) (IsMethodText s q text)

-- the line of a method, if it is one of a user and implements a selector
abbrev pub implementor_line : Slots → ℕ → MethodRec → List ℕ
implementor_line s selector m =
    if not m.kernel && nat_eq selector m.tree.selector then title_of s.names s.classes m.class m.meta m.tree.selector ++ codes "\n" else []

-- the line of the method in a slot
abbrev pub slot_line : Slots → ℕ → ℕ → List ℕ
slot_line s selector slot = option_map_or (implementor_line s selector) (live_at s.methods s.method_order slot) []
