-- What the chunks say that define the classes of an image and open its runs.
use Rattle.std.proofs.Common.{◌≡◌, Bool, true, false, not, List, [], ◌∷◌, Option, Some, None, refl, ap, sym, ◌∙◌}
use Rattle.std.specs.Prelude.{codes, nat_eq, ◌&&◌, if◌then◌else◌, unwrap_or}
use Rattle.std.specs.List.{starts_with, AllByRecursion}
use Rattle.std.specs.Option.{option_map_or}
use Rattle.std.proofs.lemmas.Bool.{and_from}
use Rattle.rb_base.specs.Names.{text_eq}
use Rattle.token_model.specs.declared.kind.Dialect.TheVariants.{Second}
use Rattle.text_model.specs.Pieces.{pieces_joined}
use Rattle.image_model.specs.Image.{ClassOf}
use Rattle.image_model.specs.Valid.{GivesNames}
use Rattle.file_model.specs.Words.{words_of, may_name, may_name_all, is_blank_string}
use Rattle.file_model.specs.Causes.{PoolsNotEmpty, UnknownDefinition, Condition, when, first_cause}
use Rattle.file_model.specs.Changes.{Define, Comment, SetClassSide, RunOf}
use Rattle.file_model.specs.Forms.{Form, Changes, Opens, Settles, Refuses, no_form, form_of}
use Rattle.file_model.specs.Filing.{Text}
use Rattle.file_rereading.specs.Trees.{definition_tree, definition_of, class_side_tree, comment_tree, opening_tree}
use Rattle.file_rereading.proofs.Names.{MayName, words_joined, joined_may}

-- where no condition holds there is no cause
pub none_holds : (cs : List Condition) → AllByRecursion (λ c. c.holds ≡ false) cs → first_cause cs ≡ None
none_holds [] all = refl
none_holds (c ∷ cs) all = ap (λ (b : Bool). if b then Some c.cause else first_cause cs) all.0 ∙ none_holds cs all.1

-- the definition of a class
pub says_definition : (c : ClassOf Text) (p : Text) → c.superclass ≡ Some p → GivesNames MayName c → form_of Second false (definition_tree c) ≡ Changes (Define (definition_of c))
says_definition c p above gives =
    let instance = pieces_joined (codes " ") c.instance in
    let shared = pieces_joined (codes " ") c.shared in
    let q = unwrap_or c.superclass (codes "nil") in
    let all : (may_name c.name && (may_name_all instance && may_name_all shared)) ≡ true =
    and_from (may_name c.name) (may_name_all instance && may_name_all shared) gives.name (and_from (may_name_all instance) (may_name_all shared) (joined_may c.instance gives.instance) (joined_may c.shared gives.shared)) in
    let none : first_cause (when (not (may_name c.name && (may_name_all instance && may_name_all shared))) UnknownDefinition ∷ when (not (is_blank_string [])) PoolsNotEmpty ∷ []) ≡ None =
    none_holds (when (not (may_name c.name && (may_name_all instance && may_name_all shared))) UnknownDefinition ∷ when (not (is_blank_string [])) PoolsNotEmpty ∷ []) (ap not all, (refl, tt)) in
    let made : Form = Changes (Define (record { name = c.name; superclass = Some q; instance = words_of instance; shared = words_of shared; category = c.category })) in
    ap (λ o. option_map_or Refuses o made) none
    ∙ (λ j. Changes (Define (record { name = c.name; superclass = super j; instance = words_joined c.instance gives.instance j; shared = words_joined c.shared gives.shared j; category = c.category })))
  where
    super : ◌≡◌ {A = Option Text} (Some (unwrap_or c.superclass (codes "nil"))) c.superclass
    super = ap (λ (o : Option Text). Some (unwrap_or o (codes "nil"))) above ∙ sym above

-- the class-instance variables of a class
pub says_class_side : (c : ClassOf Text) → GivesNames MayName c → form_of Second false (class_side_tree c) ≡ Changes (SetClassSide c.name c.class_side)
says_class_side c gives =
    let names = pieces_joined (codes " ") c.class_side in
    ap (λ (b : Bool). if b then Changes (SetClassSide c.name (words_of names)) else no_form) (joined_may c.class_side gives.class_side)
    ∙ ap (λ (ns : List Text). Changes (SetClassSide c.name ns)) (words_joined c.class_side gives.class_side)

-- with another selector it does not matter whether a message is one to `Smalltalk`
pub not_to_system : (s : Text) → text_eq s (codes "settlePlaces") ≡ false → starts_with nat_eq s (codes "replaceDoIt:") ≡ false → (a : Bool) (other : Form)
    → (if a && text_eq s (codes "settlePlaces") then Settles else (if a && starts_with nat_eq s (codes "replaceDoIt:") then no_form else other)) ≡ other
not_to_system s settles replaces true other =
    ap (λ (b : Bool). if b then Settles else (if starts_with nat_eq s (codes "replaceDoIt:") then no_form else other)) settles ∙ ap (λ (b : Bool). if b then no_form else other) replaces
not_to_system s settles replaces false other = refl

-- the comment of a class
pub says_comment : (c : ClassOf Text) → form_of Second false (comment_tree c) ≡ Changes (Comment c.name c.comment)
says_comment c = not_to_system (codes "comment:") refl refl (text_eq c.name (codes "Smalltalk")) (Changes (Comment c.name c.comment))

-- the opening of a run
pub says_opening : (r : RunOf Text) → form_of Second false (opening_tree r) ≡ Opens r
says_opening r = by r.class r.meta r.protocol
  where
    by : (n : Text) (meta : Bool) (t : Text) → form_of Second false (opening_tree (record { class = n; meta = meta; protocol = t })) ≡ Opens (record { class = n; meta = meta; protocol = t })
    by n true t = refl
    by n false t = not_to_system (codes "methodsFor:") refl refl (text_eq n (codes "Smalltalk")) (Opens (record { class = n; meta = false; protocol = t }))
