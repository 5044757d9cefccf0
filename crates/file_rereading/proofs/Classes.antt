-- Classes are read one after the other: each is defined, and then has its class-instance variables and its comment.
use Rattle.std.proofs.Common.{◌≡◌, ◌≢◌, ◌<◌, ◌≤◌, Bool, true, false, not, List, [], ◌∷◌, ◌++◌, length, Option, Some, None, Ok, Err, refl, ap, sym, subst, ◌∙◌, arith, append_assoc, append-nil, length-append}
use Rattle.std.specs.Prelude.{codes, ◌==◌, ◌&&◌, ◌||◌, if◌then◌else◌, is_some, nat_le, unwrap_or, flat_map}
use Rattle.std.specs.List.{AllByRecursion}
use Rattle.std.specs.Option.{option_map_or}
use Rattle.std.proofs.lemmas.Bool.{lt-leb, or_from}
use Rattle.rb_base.specs.Names.{text_eq}
use Rattle.rb_base.proofs.NamesLemmas.{text_eq-refl}
use Rattle.chunk_format.specs.Blank.{HasNoLeadingBlank}
use Rattle.text_model.specs.Literals.{is_identifier, quoted_text}
use Rattle.image_model.specs.Image.{ClassOf, ImageOf}
use Rattle.image_model.specs.Chain.{class_named}
use Rattle.image_model.specs.Means.{VariableKind, of_instance, of_class_side}
use Rattle.image_model.specs.Valid.{HasNoRepeat, class_names, SuperclassesStandBefore, DefinesOnceOnChain, GivesNames}
use Rattle.image_model.specs.Grown.{variables_up}
use Rattle.image_model.proofs.Lists.{all-implies}
use Rattle.image_model.proofs.GrownLemmas.{DefinesOnceOnChain-end}
use Rattle.file_model.specs.Causes.{first_cause}
use Rattle.file_model.specs.Changes.{Define, Comment, SetClassSide}
use Rattle.file_model.specs.Hierarchy.{has_class, is_kernel_class, stands_in, has_repeat, stands_twice, settled}
use Rattle.file_model.specs.Refusals.{class_limit, lacks_superclass, makes_cycle, is_one_class_too_many, definition_refusals, comment_refusals, class_side_refusals}
use Rattle.file_model.specs.Applied.{new_class, class_again, changed_class, with_definition, defined, with_class_side, with_comment, changed}
use Rattle.file_model.specs.Filing.{Text, Filing}
use Rattle.file_model.specs.Written.{keyword_line, names_text, definition_text, class_side_text, comment_text, paragraph, paragraph_unless_empty, class_text}
use Rattle.file_laws.proofs.Moves.{text_equal}
use Rattle.file_laws.proofs.Redefined.{changed_at}
use Rattle.file_laws.proofs.Settled.{find_behind}
use Rattle.file_rereading.proofs.Readings.{outside}
use Rattle.file_rereading.specs.Trees.{definition_of, definition_tree, class_side_tree, comment_tree}
use Rattle.file_rereading.proofs.Readings.{ReadsOn, reads_further, reads_none}
use Rattle.file_rereading.proofs.Lines.{spells_class_side, spells_comment}
use Rattle.file_rereading.proofs.Definitions.{right, spells_definition}
use Rattle.file_rereading.proofs.Names.{MayName, identifier_of, begins_no_blank, is_not_empty}
use Rattle.file_rereading.proofs.Says.{none_holds, says_definition, says_class_side, says_comment}
use Rattle.file_rereading.proofs.DoIts.{reads_change}
use Rattle.file_rereading.proofs.Fresh.{any_none, none_in, fresh, find_none, all_front, all_back, no_repeat_end}
use Rattle.file_rereading.proofs.Methods.{still, not_still, and_fails}
use Rattle.file_rereading.proofs.Prefixes.{before_front, once_front, above_before, above_there, once_up, named_there, named_given, not_above, has_repeat_none, stands_once}

-- the image with these classes
abbrev pub with_classes : ImageOf Text → List (ClassOf Text) → ImageOf Text
with_classes i cs = record i { classes = cs }

-- what holds of the classes of a valid image that is not too large
pub record AreSound (cs : List (ClassOf Text)) : Type 0 where
  pub distinct : HasNoRepeat (class_names cs)
  pub before : SuperclassesStandBefore cs
  pub given : AllByRecursion (GivesNames MayName) cs
  pub instance_once : AllByRecursion (DefinesOnceOnChain text_eq cs of_instance) cs
  pub side_once : AllByRecursion (DefinesOnceOnChain text_eq cs of_class_side) cs
  pub shared_once : AllByRecursion (λ c. HasNoRepeat c.shared) cs
  pub few : length cs ≤ 10000

-- a class of a user: it has a superclass
pub record IsUserClass (c : ClassOf Text) : Type 0 where
  pub above : Text
  pub under : c.superclass ≡ Some above
  pub user : c.kernel ≡ false

-- the class as it is first defined, and then with its class-instance variables
abbrev as_defined : ClassOf Text → ClassOf Text
as_defined c = new_class false (definition_of c)

abbrev with_side : ClassOf Text → List Text → ClassOf Text
with_side c names = record (as_defined c) { class_side = names }

abbrev with_text : ClassOf Text → Text → ClassOf Text
with_text c text = record (with_side c c.class_side) { comment = text }

module _ (i : ImageOf Text) (front : List (ClassOf Text)) (c : ClassOf Text) (back : List (ClassOf Text)) (s : AreSound (front ++ c ∷ back)) (u : IsUserClass c) where
  -- no class before it has its name
  unlike : AllByRecursion (λ d. text_eq c.name d.name ≡ false) front
  unlike = all-implies (λ d. d.name ≡ c.name → ⊥) (λ d. text_eq c.name d.name ≡ false) fails front (fresh (λ (d : ClassOf Text). d.name) front c back s.distinct)
    where
      fails : (d : ClassOf Text) → (d.name ≡ c.name → ⊥) → text_eq c.name d.name ≡ false
      fails d other = by (text_eq c.name d.name) refl
        where
          by : (b : Bool) → text_eq c.name d.name ≡ b → b ≡ false
          by true e = absurd (other (sym (text_equal c.name d.name e)))
          by false e = refl

  not_named : stands_in text_eq c.name front ≡ false
  not_named = any_none (λ (d : ClassOf Text). text_eq c.name d.name) front unlike

  absent : class_named text_eq front c.name ≡ None
  absent = find_none (λ (d : ClassOf Text). text_eq c.name d.name) front unlike

  not_there : has_class text_eq front c.name ≡ false
  not_there = ap (λ (o : Option (ClassOf Text)). is_some o) absent

  -- a class of its name behind those before it is found
  found : (x : ClassOf Text) → x.name ≡ c.name → class_named text_eq (front ++ x ∷ []) c.name ≡ Some x
  found x same = find_behind (λ (d : ClassOf Text). text_eq c.name d.name) front x [] unlike (ap (text_eq c.name) same ∙ text_eq-refl c.name)

  gives : GivesNames MayName c
  gives = (all_back (GivesNames MayName) front (c ∷ back) s.given).0

  word : is_identifier c.name ≡ true
  word = identifier_of c.name gives.name

  given_front : AllByRecursion (GivesNames MayName) front
  given_front = all_front (GivesNames MayName) front (c ∷ back) s.given

  -- the name of its superclass
  above_word : is_identifier (unwrap_or c.superclass (codes "nil")) ≡ true
  above_word =
      let place = above_before front c back s.before u.above u.under in
      ap (λ (o : Option Text). is_identifier (unwrap_or o (codes "nil"))) u.under ∙ identifier_of u.above (named_given front given_front place.0 u.above place.1)

  -- no variable stands twice where it is put in with such variables
  once_with : (kind : VariableKind) (x : ClassOf Text) → x.superclass ≡ c.superclass → AllByRecursion (DefinesOnceOnChain text_eq (front ++ c ∷ back) kind) (front ++ c ∷ back) → HasNoRepeat (variables_up text_eq kind front x) → (n : Text) → stands_twice text_eq (front ++ x ∷ []) kind n ≡ false
  once_with kind x super all once n =
      stands_once (front ++ x ∷ []) kind n
      (DefinesOnceOnChain-end text_eq text_eq-refl front x (before_front front (c ∷ back) s.before) (λ m e. above_there front c back s.before m (sym super ∙ e)) kind (once_front kind front (c ∷ back) s.before all) once)

  -- it is defined
  defines : changed text_eq false (Define (definition_of c)) (with_classes i front) ≡ Ok (with_classes i (front ++ as_defined c ∷ []))
  defines =
      let d = definition_of c in
      let new = front ++ as_defined c ∷ [] in
      let put : with_definition text_eq false d front ≡ new = ap (λ (b : Bool). if b then changed_class text_eq c.name (class_again d) front else new) not_there in
      let all : defined text_eq false d front ≡ new = ap (λ (b : Bool). if b then settled text_eq (with_definition text_eq false d front) else with_definition text_eq false d front) not_there ∙ put in
      let place = above_before front c back s.before u.above u.under in
      let kernel : is_kernel_class text_eq front c.name ≡ false = ap (λ o. option_map_or (λ (x : ClassOf Text). x.kernel) o false) absent in
      let lacks : lacks_superclass text_eq front d ≡ false = ap (λ o. option_map_or (λ p. not (has_class text_eq front p)) o false) u.under ∙ ap not (named_there front place.0 u.above place.1) in
      let cycle : makes_cycle text_eq front d ≡ false = not_above front c.name c.superclass unlike in
      let first : stands_twice text_eq (with_definition text_eq false d front) of_instance c.name ≡ false =
      ap (λ (cs : List (ClassOf Text)). stands_twice text_eq cs of_instance c.name) put ∙ once_with of_instance (as_defined c) refl s.instance_once (once_up of_instance front c back s.before s.instance_once) c.name in
      let up = once_up of_class_side front c back s.before s.side_once in
      let second : stands_twice text_eq (with_definition text_eq false d front) of_class_side c.name ≡ false =
      ap (λ (cs : List (ClassOf Text)). stands_twice text_eq cs of_class_side c.name) put ∙ once_with of_class_side (as_defined c) refl s.side_once (no_repeat_end c.class_side (variables_up text_eq of_class_side front (as_defined c)) up) c.name in
      let third : has_repeat text_eq c.shared ≡ false = has_repeat_none c.shared (all_back (λ (x : ClassOf Text). HasNoRepeat x.shared) front (c ∷ back) s.shared_once).0 in
      let twice = or_from (stands_twice text_eq (with_definition text_eq false d front) of_instance c.name) (stands_twice text_eq (with_definition text_eq false d front) of_class_side c.name || has_repeat text_eq c.shared) first
      (or_from (stands_twice text_eq (with_definition text_eq false d front) of_class_side c.name) (has_repeat text_eq c.shared) second third) in
      let less : length front < 10000 = omega (arith, s.few, length-append front (c ∷ back)) in
      let many : is_one_class_too_many text_eq front c.name ≡ false = and_fails (not (has_class text_eq front c.name)) (nat_le class_limit (length front)) (lt-leb 10000 (length front) less) in
      let none : first_cause (definition_refusals text_eq front d (with_definition text_eq false d front)) ≡ None =
      none_holds (definition_refusals text_eq front d (with_definition text_eq false d front)) (kernel, (lacks, (cycle, (twice, (many, tt))))) in
      ap (λ o. option_map_or Err o (Ok (with_classes i (defined text_eq false d front)))) none ∙ ap (λ (cs : List (ClassOf Text)). Ok (with_classes i cs)) all

  -- it has its class-instance variables
  sets_side : changed text_eq false (SetClassSide c.name c.class_side) (with_classes i (front ++ as_defined c ∷ [])) ≡ Ok (with_classes i (front ++ with_side c c.class_side ∷ []))
  sets_side =
      let old = front ++ as_defined c ∷ [] in
      let is = found (as_defined c) refl in
      let put : with_class_side text_eq c.name c.class_side old ≡ front ++ with_side c c.class_side ∷ [] = changed_at text_eq text_eq-refl text_equal c.name (λ (x : ClassOf Text). record x { class_side = c.class_side }) front (as_defined c) [] not_named refl refl in
      let lacks : not (has_class text_eq old c.name) ≡ false = ap (λ (o : Option (ClassOf Text)). not (is_some o)) is in
      let kernel : (is_kernel_class text_eq old c.name && not (length c.class_side == 0)) ≡ false = ap (λ o. option_map_or (λ (x : ClassOf Text). x.kernel) o false && not (length c.class_side == 0)) is in
      let twice : stands_twice text_eq (with_class_side text_eq c.name c.class_side old) of_class_side c.name ≡ false =
      ap (λ (cs : List (ClassOf Text)). stands_twice text_eq cs of_class_side c.name) put ∙ once_with of_class_side (with_side c c.class_side) refl s.side_once (once_up of_class_side front c back s.before s.side_once) c.name in
      let none : first_cause (class_side_refusals text_eq old c.name c.class_side (with_class_side text_eq c.name c.class_side old)) ≡ None =
      none_holds (class_side_refusals text_eq old c.name c.class_side (with_class_side text_eq c.name c.class_side old)) (lacks, (kernel, (twice, tt))) in
      ap (λ o. option_map_or Err o (Ok (with_classes i (with_class_side text_eq c.name c.class_side old)))) none ∙ ap (λ (cs : List (ClassOf Text)). Ok (with_classes i cs)) put

  -- it has its comment
  sets_comment : changed text_eq false (Comment c.name c.comment) (with_classes i (front ++ with_side c c.class_side ∷ [])) ≡ Ok (with_classes i (front ++ with_text c c.comment ∷ []))
  sets_comment =
      let old = front ++ with_side c c.class_side ∷ [] in
      let is = found (with_side c c.class_side) refl in
      let put : with_comment text_eq c.name c.comment old ≡ front ++ with_text c c.comment ∷ [] = changed_at text_eq text_eq-refl text_equal c.name (λ (x : ClassOf Text). record x { comment = c.comment }) front (with_side c c.class_side) [] not_named refl refl in
      let lacks : not (has_class text_eq old c.name) ≡ false = ap (λ (o : Option (ClassOf Text)). not (is_some o)) is in
      let kernel : is_kernel_class text_eq old c.name ≡ false = ap (λ o. option_map_or (λ (x : ClassOf Text). x.kernel) o false) is in
      let none : first_cause (comment_refusals text_eq old c.name) ≡ None =
      none_holds (comment_refusals text_eq old c.name) (lacks, (kernel, tt)) in
      ap (λ o. option_map_or Err o (Ok (with_classes i (with_comment text_eq c.name c.comment old)))) none ∙ ap (λ (cs : List (ClassOf Text)). Ok (with_classes i cs)) put

  -- then it is the class
  whole_class : with_text c c.comment ≡ c
  whole_class = let user = sym u.user in λ j. record { name = c.name; superclass = c.superclass; instance = c.instance; shared = c.shared; class_side = c.class_side; category = c.category; comment = c.comment; kernel = user j }

  -- its definition is read
  reads_definition : (at_head : Bool) (behind : Text) → ReadsOn (paragraph (definition_text c) ++ behind) (outside (with_classes i front) at_head) behind (outside (with_classes i (front ++ as_defined c ∷ [])) false)
  reads_definition at_head behind =
      let p = unwrap_or c.superclass (codes "nil") in
      let n = c.name in
      let a = keyword_line (codes "instanceVariableNames: ") (names_text c.instance) in
      let b = keyword_line (codes "classVariableNames: ") (names_text c.shared) in
      let d = keyword_line (codes "poolDictionaries: ") (quoted_text []) in
      let e = keyword_line (codes "category: ") (quoted_text c.category) in
      let rest = codes " subclass: #" ++ (n ++ (a ++ (b ++ (d ++ e)))) in
      let text : definition_text c ≡ p ++ rest = right p (codes " subclass: #") n a b d e in
      let some : definition_text c ≢ [] = subst (λ (x : Text). x ≢ []) (sym text) (is_not_empty p rest above_word) in
      let begins : HasNoLeadingBlank (definition_text c) = subst HasNoLeadingBlank (sym text) (begins_no_blank p rest above_word) in
      reads_change (definition_text c) (definition_tree c) (Define (definition_of c)) (with_classes i front) (with_classes i (front ++ as_defined c ∷ [])) at_head behind some begins (spells_definition c above_word word) (says_definition c u.above u.under gives) refl defines

  -- its class-instance variables are read, where there are some
  reads_side : (behind : Text) → ReadsOn (paragraph_unless_empty c.class_side (class_side_text c) ++ behind) (outside (with_classes i (front ++ as_defined c ∷ [])) false) behind (outside (with_classes i (front ++ with_side c c.class_side ∷ [])) false)
  reads_side behind = by (length c.class_side == 0) refl
    where
      by : (b : Bool) → (length c.class_side == 0) ≡ b → ReadsOn ((if b then [] else paragraph (class_side_text c)) ++ behind) (outside (with_classes i (front ++ as_defined c ∷ [])) false) behind (outside (with_classes i (front ++ with_side c c.class_side ∷ [])) false)
      by true e =
          subst (λ (names : List Text). ReadsOn behind (outside (with_classes i (front ++ as_defined c ∷ [])) false) behind (outside (with_classes i (front ++ with_side c names ∷ [])) false)) (sym (none_in c.class_side e)) reads_none
      by false e =
          let rest = codes " class instanceVariableNames: " ++ names_text c.class_side in
          let text : class_side_text c ≡ c.name ++ rest = append_assoc c.name (codes " class instanceVariableNames: ") (names_text c.class_side) in
          let some : class_side_text c ≢ [] = subst (λ (x : Text). x ≢ []) (sym text) (is_not_empty c.name rest word) in
          let begins : HasNoLeadingBlank (class_side_text c) = subst HasNoLeadingBlank (sym text) (begins_no_blank c.name rest word) in
          reads_change (class_side_text c) (class_side_tree c) (SetClassSide c.name c.class_side) (with_classes i (front ++ as_defined c ∷ [])) (with_classes i (front ++ with_side c c.class_side ∷ [])) false behind some begins (spells_class_side c word) (says_class_side c gives) refl sets_side

  -- its comment is read, where it is not empty
  reads_comment : (behind : Text) → ReadsOn (paragraph_unless_empty c.comment (comment_text c) ++ behind) (outside (with_classes i (front ++ with_side c c.class_side ∷ [])) false) behind (outside (with_classes i (front ++ with_text c c.comment ∷ [])) false)
  reads_comment behind = by (length c.comment == 0) refl
    where
      by : (b : Bool) → (length c.comment == 0) ≡ b → ReadsOn ((if b then [] else paragraph (comment_text c)) ++ behind) (outside (with_classes i (front ++ with_side c c.class_side ∷ [])) false) behind (outside (with_classes i (front ++ with_text c c.comment ∷ [])) false)
      by true e =
          subst (λ (text : Text). ReadsOn behind (outside (with_classes i (front ++ with_side c c.class_side ∷ [])) false) behind (outside (with_classes i (front ++ with_text c text ∷ [])) false)) (sym (none_in c.comment e)) reads_none
      by false e =
          let rest = codes " comment: " ++ quoted_text c.comment in
          let text : comment_text c ≡ c.name ++ rest = append_assoc c.name (codes " comment: ") (quoted_text c.comment) in
          let some : comment_text c ≢ [] = subst (λ (x : Text). x ≢ []) (sym text) (is_not_empty c.name rest word) in
          let begins : HasNoLeadingBlank (comment_text c) = subst HasNoLeadingBlank (sym text) (begins_no_blank c.name rest word) in
          reads_change (comment_text c) (comment_tree c) (Comment c.name c.comment) (with_classes i (front ++ with_side c c.class_side ∷ [])) (with_classes i (front ++ with_text c c.comment ∷ [])) false behind some begins (spells_comment c word) (says_comment c) refl sets_comment

  -- the class is read
  reads_class : (at_head : Bool) (behind : Text) → ReadsOn (class_text c ++ behind) (outside (with_classes i front) at_head) behind (outside (with_classes i (front ++ c ∷ [])) false)
  reads_class at_head behind =
      let second = paragraph_unless_empty c.class_side (class_side_text c) in
      let third = paragraph_unless_empty c.comment (comment_text c) in
      let text : class_text c ++ behind ≡ paragraph (definition_text c) ++ (second ++ (third ++ behind)) =
      append_assoc (paragraph (definition_text c) ++ second) third behind ∙ append_assoc (paragraph (definition_text c)) second (third ++ behind) in
      let all = reads_further (reads_definition at_head (second ++ (third ++ behind))) (reads_further (reads_side (third ++ behind)) (reads_comment behind)) in
      subst (λ (x : Text). ReadsOn x (outside (with_classes i front) at_head) behind (outside (with_classes i (front ++ c ∷ [])) false)) (sym text)
      (subst (λ (x : ClassOf Text). ReadsOn (paragraph (definition_text c) ++ (second ++ (third ++ behind))) (outside (with_classes i front) at_head) behind (outside (with_classes i (front ++ x ∷ [])) false)) whole_class all)

-- classes
pub reads_classes : (front users : List (ClassOf Text)) (i : ImageOf Text) (at_head : Bool) (behind : Text) → AreSound (front ++ users) → AllByRecursion IsUserClass users →
    ReadsOn (flat_map class_text users ++ behind) (outside (with_classes i front) at_head) behind (outside (with_classes i (front ++ users)) (still at_head users))
reads_classes front [] i at_head behind s all =
    subst (λ (cs : List (ClassOf Text)). ReadsOn behind (outside (with_classes i front) at_head) behind (outside (with_classes i cs) at_head)) (sym (append-nil front)) reads_none
reads_classes front (c ∷ cs) i at_head behind s all =
    let rest = flat_map class_text cs in
    let assoc = append_assoc front (c ∷ []) cs in
    let one = reads_class i front c cs s all.0 at_head (rest ++ behind) in
    let more = reads_classes (front ++ c ∷ []) cs i false behind (subst AreSound (sym assoc) s) all.1 in
    let both = reads_further one more in
    subst (λ (x : Text). ReadsOn x (outside (with_classes i front) at_head) behind (outside (with_classes i (front ++ c ∷ cs)) false)) (sym (append_assoc (class_text c) rest behind))
    (subst (λ (f : Filing). ReadsOn (class_text c ++ (rest ++ behind)) (outside (with_classes i front) at_head) behind f) (λ j. outside (with_classes i (assoc j)) (not_still cs j)) both)
