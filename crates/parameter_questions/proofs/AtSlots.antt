-- The fault of a method by what is told of it, and that of a do-it.
use Rattle.std.proofs.Common.{◌≡◌, ℕ, ◌&&◌, ◌||◌, not, Bool, true, false, Bor, [], Option, None, Some, option_map, refl, sym, ap, ◌∙◌}
use Rattle.std.specs.Option.{option_map_or}
use Rattle.st_tree.specs.declared.tree.Method.{Method}
use Rattle.st_tree.specs.declared.tree.Sequence.{Sequence}
use Rattle.st_tree.specs.View.{method_of, sequence_of}
use Rattle.image_model.specs.Image.{EntryOf}
use Rattle.class_table.specs.declared.record.MethodRec.{MethodRec}
use Rattle.class_table.specs.declared.record.MethodInfo.{MethodInfo}
use Rattle.class_table.specs.declared.record.DoIt.{DoIt}
use Rattle.class_table.specs.Info.{IsInfoOf}
use Rattle.class_table.specs.Slots.{Slots}
use Rattle.class_table.specs.View.{class_name, entry_of, doit_of}
use Rattle.parameter_questions.specs.declared.code.Code.TheVariants as code
use Rattle.parameter_questions.specs.declared.question.Fault.{Fault}
use Rattle.parameter_questions.specs.declared.question.Fault.TheVariants as fault
use Rattle.parameter_questions.specs.Questions.{is_of_all, in_method, in_doit, in_code, is_method_found}

module _ (s : Slots) (selector : ℕ) where
  -- a method without its texts
  abbrev pub bare : ℕ → Bool → Method → EntryOf ℕ
  bare class meta tree = record { class = class_name s.classes class; meta = meta; protocol = []; source = []; tree = method_of tree; kernel = false }

  bare-same : (f : Fault) (m : MethodRec) → in_method s selector f (bare m.class m.meta m.tree) ≡ in_method s selector f (entry_of s.classes m)
  bare-same (fault.Read k) m = refl
  bare-same (fault.Passed k) m = refl
  bare-same fault.High m = refl

  pub slot-same : (f : Fault) (x : MethodInfo) (o : Option MethodRec) (tree : Method) → IsInfoOf (Some x) o → Some tree ≡ option_map (λ (m : MethodRec). m.tree) o → (is_of_all f || not x.kernel) ≡ true
      → in_method s selector f (bare x.class x.meta tree) ≡ option_map_or (λ (m : MethodRec). is_method_found s selector f (entry_of s.classes m)) o false
  slot-same f x None tree t e h = absurd t
  slot-same f x (Some m) tree t e h =
      let same : tree ≡ m.tree = cc in
      (λ j. in_method s selector f (bare (t.class j) (t.meta j) (same j)))
      ∙ bare-same f m
      ∙ ap (λ (b : Bool). b && in_method s selector f (entry_of s.classes m)) (sym h ∙ ap (λ (b : Bool). is_of_all f || not b) t.kernel)

  pub unasked : (f : Fault) (x : MethodInfo) (o : Option MethodRec) → IsInfoOf (Some x) o → (is_of_all f || not x.kernel) ≡ false → false ≡ option_map_or (λ (m : MethodRec). is_method_found s selector f (entry_of s.classes m)) o false
  unasked f x None t h = refl
  unasked f x (Some m) t h = ap (λ (b : Bool). b && in_method s selector f (entry_of s.classes m)) (sym h ∙ ap (λ (b : Bool). is_of_all f || not b) t.kernel)

  body-same : (f : Fault) (d : DoIt) → in_doit s selector f (record { source = []; body = sequence_of d.body }) ≡ in_doit s selector f (doit_of d)
  body-same (fault.Read k) d = refl
  body-same (fault.Passed k) d = refl
  body-same fault.High d = refl

  pub doit-same : (f : Fault) (o : Option DoIt) (body : Sequence) → Some body ≡ option_map (λ (d : DoIt). d.body) o
      → in_doit s selector f (record { source = []; body = sequence_of body }) ≡ option_map_or (λ (d : DoIt). in_doit s selector f (doit_of d)) o false
  doit-same f None body e = absurd (cc)
  doit-same f (Some d) body e = let same : body ≡ d.body = cc in (λ j. in_doit s selector f (record { source = []; body = sequence_of (same j) })) ∙ body-same f d

  pub code-same : (f : Fault) (body : Bor Sequence) → in_code s selector f (code.DoIt body) ≡ in_doit s selector f (record { source = []; body = sequence_of body.now })
  code-same (fault.Read k) body = refl
  code-same (fault.Passed k) body = refl
  code-same fault.High body = refl
