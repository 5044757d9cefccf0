-- The source of each method of a valid image spells it, of the kernel or not.
use Rattle.std.proofs.Common.{◌≡◌, Bool, true, false, not, cond, List, [], ◌∷◌, ◌++◌, map, filter, Ok, refl, sym, subst}
use Rattle.std.specs.Prelude.{if◌then◌else◌}
use Rattle.std.specs.List.{AllByRecursion}
use Rattle.rb_base.specs.Names.{text_eq}
use Rattle.token_model.specs.declared.kind.Dialect.{Dialect}
use Rattle.tree_model.specs.Tree.{MethodOf}
use Rattle.grammar_model.specs.Spelling.{SpellsMethod}
use Rattle.image_model.specs.Image.{EntryOf, ImageOf}
use Rattle.image_model.specs.Words.{text_words}
use Rattle.image_model.specs.Lookup.{is_method}
use Rattle.image_model.specs.Valid.{IsUserMethod, IsValid}
use Rattle.file_model.specs.Changes.{ChangeOf, Define, DefineAt, Comment, SetClassSide, RemoveMethod, RemoveClass, RunOf}
use Rattle.file_model.specs.Refusals.{has_method, definition_refusals, comment_refusals, class_side_refusals, removal_refusals, class_removal_refusals, method_refusals}
use Rattle.file_model.specs.Applied.{is_of_class, with_definition, with_comment, with_class_side, defined, without_class, without_method, changed, entry_in, with_method, method_added}
use Rattle.file_model.specs.Filing.{Text}
use Rattle.file_model.specs.Fileable.{reading_of}
use Rattle.file_model.specs.Reading.{IsKernelOf}
use Rattle.file_model.specs.Places.{put_again_behind, method_place}
use Rattle.file_laws.proofs.OtherOrder.{all_reordered}
use Rattle.file_laws.proofs.PutAgain.{put_again_behind_same}
use Rattle.file_laws.proofs.Refused.{unless_ok}
use Rattle.file_laws.proofs.Sound.{All-filter, All-last, All-replaced}
use Rattle.file_laws.proofs.Taking.{IsKeptByChunks, kept_kernel}

module _ (d : Dialect) where
  -- the source of a method spells it
  abbrev pub IsSpelled : EntryOf Text → Type 0
  IsSpelled m = SpellsMethod d m.kernel m.source m.tree

  abbrev AllSpelled : ImageOf Text → Type 0
  AllSpelled i = AllByRecursion IsSpelled i.methods

  -- a change keeps it
  spelled_changed : (kernel : Bool) (c : ChangeOf Text) (i j : ImageOf Text) → changed text_eq kernel c i ≡ Ok j → AllSpelled i → AllSpelled j
  spelled_changed kernel (Define x) i j e s = subst AllSpelled (unless_ok (definition_refusals text_eq i.classes x (with_definition text_eq kernel x i.classes)) (record i { classes = defined text_eq kernel x i.classes }) j e) s
  spelled_changed kernel (DefineAt x k) i j e s = subst AllSpelled (unless_ok (definition_refusals text_eq i.classes x (with_definition text_eq kernel x i.classes)) (record i { classes = with_definition text_eq kernel x i.classes }) j e) s
  spelled_changed kernel (Comment n t) i j e s = subst AllSpelled (unless_ok (comment_refusals text_eq i.classes n) (record i { classes = with_comment text_eq n t i.classes }) j e) s
  spelled_changed kernel (SetClassSide n ns) i j e s = subst AllSpelled (unless_ok (class_side_refusals text_eq i.classes n ns (with_class_side text_eq n ns i.classes)) (record i { classes = with_class_side text_eq n ns i.classes }) j e) s
  spelled_changed kernel (RemoveMethod c meta t) i j e s =
      subst AllSpelled (unless_ok (removal_refusals text_eq i c meta t) (without_method text_eq c meta t i) j e) (All-filter IsSpelled (λ m. not (is_method text_eq c meta t m)) i.methods s)
  spelled_changed kernel (RemoveClass n) i j e s =
      subst AllSpelled (unless_ok (class_removal_refusals text_eq i.classes n) (without_class text_eq n i) j e) (All-filter IsSpelled (λ m. not (is_of_class text_eq n m)) i.methods s)

  -- a method that is added keeps it
  spelled_added : (kernel : Bool) (r : RunOf Text) (source : Text) (m : MethodOf Text) (i j : ImageOf Text) → SpellsMethod d kernel source m → method_added text_eq kernel r source m i ≡ Ok j → AllSpelled i → AllSpelled j
  spelled_added kernel r source m i j spells e s =
      subst AllSpelled (unless_ok (method_refusals text_eq i.methods r m.selector) (record i { methods = with_method text_eq kernel r source m i.methods }) j e) (by (has_method text_eq i.methods r.class r.meta m.selector))
    where
      by : (b : Bool) → AllByRecursion IsSpelled (if b then map (λ x. if is_method text_eq r.class r.meta m.selector x then entry_in kernel r source m else x) i.methods else i.methods ++ entry_in kernel r source m ∷ [])
      by true = All-replaced IsSpelled (is_method text_eq r.class r.meta m.selector) (entry_in kernel r source m) i.methods s spells
      by false = All-last IsSpelled i.methods (entry_in kernel r source m) s spells

  -- all that chunks make keeps it
  spelled_keeps : (kernel : Bool) → IsKeptByChunks d kernel AllSpelled
  spelled_keeps kernel = record {
    changes = λ b c i j says e s. spelled_changed kernel c i j e s;
    adds = λ r source m i j spells stands there e s. spelled_added kernel r source m i j spells e s;
    counts = λ i x at_head chunk s. s;
    replaces = λ i numeral x chunk s. s;
    places = λ i stated s. all_reordered IsSpelled i.methods (put_again_behind (λ (m : EntryOf Text). m.kernel) (method_place text_eq stated.methods) i.methods) (put_again_behind_same (λ (m : EntryOf Text). m.kernel) (method_place text_eq stated.methods) i.methods) s;
  }

  -- where those of the users are spelled, and those of the kernel, all are
  spelled_all : (kernel : ImageOf Text) (ms : List (EntryOf Text)) → AllByRecursion (λ (m : EntryOf Text). m.kernel ≡ false → IsUserMethod (reading_of d kernel) m) ms → AllByRecursion IsSpelled (filter (λ (m : EntryOf Text). m.kernel) ms) → AllByRecursion IsSpelled ms
  spelled_all kernel [] users own = tt
  spelled_all kernel (m ∷ ms) users own = by m.kernel refl own (spelled_all kernel ms users.1)
    where
      by : (b : Bool) → m.kernel ≡ b → AllByRecursion IsSpelled (cond b (m ∷ filter (λ (e : EntryOf Text). e.kernel) ms) (filter (λ (e : EntryOf Text). e.kernel) ms)) → (AllByRecursion IsSpelled (filter (λ (e : EntryOf Text). e.kernel) ms) → AllByRecursion IsSpelled ms) → IsSpelled m × AllByRecursion IsSpelled ms
      by true e h rest = (h.0, rest h.1)
      by false e h rest = (subst (λ (b : Bool). SpellsMethod d b m.source m.tree) (sym e) (users.0 e).spells, rest h)

  -- so it is in each valid image
  pub valid_spelled : (prelude : Text) (kernel i : ImageOf Text) → IsKernelOf d prelude kernel → IsValid text_words (reading_of d kernel) i → AllByRecursion IsSpelled i.methods
  valid_spelled prelude kernel i is valid =
      spelled_all kernel i.methods valid.user_methods
      (subst (AllByRecursion IsSpelled) (sym valid.kernel_methods) (kept_kernel d AllSpelled (spelled_keeps true) prelude kernel is tt))
