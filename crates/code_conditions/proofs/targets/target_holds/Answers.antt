use Rattle.std.proofs.Common.{◌≡◌, ℕ, Bool, Option, Some, option_map, sym, ap, subst, ◌∙◌}
use Rattle.image_model.specs.Image.{EntryOf}
use Rattle.st_tree.specs.View.{method_of}
use Rattle.class_table.specs.Valid.{IsLive}
use Rattle.class_table.specs.View.{class_name, number_image}
use Rattle.command_model.specs.CodeEffects.{target_of}
use Rattle.command_model.specs.Parts.{Part}
use Rattle.command_model.specs.Places.{SendOf, sent_by}
use Rattle.part_questions.specs.Codes.{entry_of}
use Rattle.part_questions.specs.Parts.{part_of}
use Rattle.part_lookup.specs.Found.{found_in}
use Rattle.users_methods.specs.Users as users
use Rattle.inlined_code.specs.Sending.{send_of}
use Rattle.inline_questions.specs.Codes.{code_alone, entry_in}
use Rattle.code_conditions.specs.Trees.{asked, users_part}
use Rattle.code_conditions.proofs.Sends.{holds, no_message, no_target, one_target, side-found}
use Rattle.code_conditions.proofs.targets.target_holds.Goals as goal

pub returns-in_default-sent_of : goal.returns-in_default-sent_of
returns-in_default-sent_of g c =
    let s = c.args.image.now in
    let p = c.args.part.now in
    let f = c.in-Some.found in
    let there : ◌≡◌ {A = Option (EntryOf ℕ × Part)} (Some (found_in s.classes f)) (users_part s p) = sym (ap (option_map (found_in s.classes)) c.in-Some.is) ∙ c.in_ok-found.ensures.part in
    no_message s p (holds s p c.args.condition.now) (users.entry_in s.classes f.method) (part_of f.part) there (sym (ap (option_map send_of) c.in_default-sent_of.is) ∙ c.sent_of.ensures.sent)

pub target_of-requires-clause-live : goal.target_of-requires-clause-live
target_of-requires-clause-live g c =
    subst (IsLive c.args.image.now.class_order) (sym c.code_of-method.ensures.class) (c.in_ok-found.ensures.live c.in-Some.found c.in-Some.is)

pub returns-in_default-target_of : goal.returns-in_default-target_of
returns-in_default-target_of g c =
    let s = c.args.image.now in
    let p = c.args.part.now in
    let f = c.in-Some.found in
    let m : EntryOf ℕ = users.entry_in s.classes f.method in
    let there : ◌≡◌ {A = Option (EntryOf ℕ × Part)} (Some (found_in s.classes f)) (users_part s p) = sym (ap (option_map (found_in s.classes)) c.in-Some.is) ∙ c.in_ok-found.ensures.part in
    let e : SendOf ℕ = send_of c.in-Some-sent_of.sent in
    let one : Some e ≡ sent_by (method_of f.method.tree.now) (part_of f.part) = sym (ap (option_map send_of) c.in-Some-sent_of.is) ∙ c.sent_of.ensures.sent in
    let side : c.code_of-method.result.meta ≡ p.method.meta = ap (λ (k : EntryOf ℕ). k.meta) (c.code_of-method.ensures.code s) ∙ side-found s p m (part_of f.part) there in
    let named : class_name s.classes c.code_of-method.result.class ≡ Some p.method.class = ap (class_name s.classes) c.code_of-method.ensures.class ∙ c.in_ok-found.ensures.named f c.in-Some.is in
    no_target s p c.args.condition.now m (part_of f.part) there e one
    (sym (ap (option_map (entry_in s)) c.in_default-target_of.is) ∙ c.target_of.ensures.target p.method.class named
    ∙ ap (λ (b : Bool). option_map code_alone (target_of (asked s) (number_image s) p.method.class b e)) side)

pub target_passes-requires-clause-call : goal.target_passes-requires-clause-call
target_passes-requires-clause-call g c = record {
  live = subst (IsLive c.args.image.now.class_order) (sym c.code_of-method.ensures.class) (c.in_ok-found.ensures.live c.in-Some.found c.in-Some.is);
  target_live = c.target_of.ensures.live c.in-Some-target_of.target c.in-Some-target_of.is;
}

pub returns : goal.returns
returns g c =
    let s = c.args.image.now in
    let p = c.args.part.now in
    let f = c.in-Some.found in
    let m : EntryOf ℕ = users.entry_in s.classes f.method in
    let there : ◌≡◌ {A = Option (EntryOf ℕ × Part)} (Some (found_in s.classes f)) (users_part s p) = sym (ap (option_map (found_in s.classes)) c.in-Some.is) ∙ c.in_ok-found.ensures.part in
    let e : SendOf ℕ = send_of c.in-Some-sent_of.sent in
    let one : Some e ≡ sent_by (method_of f.method.tree.now) (part_of f.part) = sym (ap (option_map send_of) c.in-Some-sent_of.is) ∙ c.sent_of.ensures.sent in
    let side : c.code_of-method.result.meta ≡ p.method.meta = ap (λ (k : EntryOf ℕ). k.meta) (c.code_of-method.ensures.code s) ∙ side-found s p m (part_of f.part) there in
    let named : class_name s.classes c.code_of-method.result.class ≡ Some p.method.class = ap (class_name s.classes) c.code_of-method.ensures.class ∙ c.in_ok-found.ensures.named f c.in-Some.is in
    let target : Some (entry_in s c.in-Some-target_of.target) ≡ option_map code_alone (target_of (asked s) (number_image s) p.method.class p.method.meta e) =
    sym (ap (option_map (entry_in s)) c.in-Some-target_of.is) ∙ c.target_of.ensures.target p.method.class named
    ∙ ap (λ (b : Bool). option_map code_alone (target_of (asked s) (number_image s) p.method.class b e)) side in
    one_target s p c.args.condition.now m (part_of f.part) there e one c.target_passes.result (entry_of s c.code_of-method.result) (entry_in s c.in-Some-target_of.target) (c.code_of-method.ensures.code s) target c.target_passes.ensures
