-- The changes of code, and then the getter and the setter, are a plan of the command.
use Rattle.std.proofs.Common.{◌≡◌, ℕ, suc, ◌+◌, ◌<◌, false, List, [], ◌∷◌, ◌++◌, length, map, None, Some, slice_get, option_map, refl, sym, ap, subst, ◌∙◌, arith}
use Rattle.std.specs.List.{list_any}
use Rattle.std.proofs.Math.Dec.{eqb}
use Rattle.std.proofs.lemmas.Option.{slice_get_within}
use Rattle.tree_model.specs.AllNames.{MethodNames}
use Rattle.st_tree.specs.View.{method_of}
use Rattle.st_tree.specs.declared.tree.Method.{Method}
use Rattle.image_model.specs.Image.{EntryOf, ImageOf}
use Rattle.image_model.specs.Words.{number_words}
use Rattle.class_table.specs.declared.record.MethodRec.{MethodRec}
use Rattle.class_table.specs.declared.record.Place.{Place}
use Rattle.class_table.specs.declared.record.Place.TheVariants as place
use Rattle.class_table.specs.declared.record.Slot.TheVariants as slot
use Rattle.class_table.specs.Slots.{Slots}
use Rattle.class_table.specs.Valid.{IsLive, IsOrderly}
use Rattle.class_table.specs.View.{live, class_name, entry_of, number_image}
use Rattle.class_table.specs.Kept.{FitsMethod}
use Rattle.class_table.specs.Finding.{named_in}
use Rattle.class_table.proofs.KeptLemmas.{method-added}
use Rattle.class_table.proofs.Live.{live-same}
use Rattle.class_questions.proofs.ChainLaws.{named-slot}
use Rattle.image_laws.proofs.Middles.{get-middle}
use Rattle.change_set.specs.declared.change.Change.{Change}
use Rattle.change_set.specs.declared.change.Change.TheVariants as change
use Rattle.wider_slots.specs.Closed.{IsClosed}
use Rattle.wider_slots.specs.Wider.{one_method, widened, Wider}
use Rattle.wider_slots.proofs.Append.{get-append}
use Rattle.command_model.specs.Accessors.{getter, setter_of, accessing, variable_abstracted}
use Rattle.command_model.specs.Effects.{effect}
use Rattle.command_model.specs.MethodEffects.{new_method}
use Rattle.command_model.specs.Numbers.{number_writing}
use Rattle.commands.specs.Views.{asked_by}
use Rattle.plans.specs.Plan.{IsPlan}
use Rattle.abstracted_code.specs.declared.abstraction.Abstraction.{Abstraction}
use Rattle.method_plans.proofs.Added.{wider_same, wider_room, new-absent}
use Rattle.method_plans.proofs.Leads.{Leads, leads-plan}
use Rattle.method_plans.proofs.LiveMethods.{live-append, live-cons}
use Rattle.remade_plans.specs.Remade.{image_after}
use Rattle.abstract_plans.specs.Abstracted.{abstraction_command, remaking_of, accessor_rec}
use Rattle.abstract_plans.proofs.Fits.{accessor-fits}
use Rattle.abstract_plans.proofs.Roomy.{length-end, and_method, roomy-is, orderly-more, leads-more, leads-last}
use Rattle.abstract_plans.proofs.Spoken.{with_code, Remade}

module _ (s : Slots) (o : IsOrderly s) (a : Abstraction) (class : ℕ) (found : named_in s.classes s.class_order a.class ≡ Some class) (reads writes : Method)
    (reads_is : method_of reads ≡ getter a.variable) (writes_is : method_of writes ≡ setter_of a.variable a.setter a.parameter)
    (reads_known : MethodNames (λ n. n < length s.names) (method_of reads)) (writes_known : MethodNames (λ n. n < length s.names) (method_of writes)) where
  -- the records of both
  abbrev pub reader : MethodRec
  reader = accessor_rec s.names class reads

  abbrev pub writer : MethodRec
  writer = accessor_rec s.names class writes

  fits-reader : FitsMethod s reader
  fits-reader = accessor-fits s a class reads found reads_known

  fits-writer : FitsMethod s writer
  fits-writer = accessor-fits s a class writes found writes_known

  -- the slots with room for both
  abbrev one : Slots
  one = and_method s reader

  abbrev two : Slots
  two = and_method one writer

  one-fits : FitsMethod one writer
  one-fits = record { names_known = fits-writer.names_known; class_live = fits-writer.class_live }

  pub room-first : (u : Slots) → IsClosed s → u ≡ widened (one_method reader) s → Wider s u
  room-first u closed e = wider_room s s u reader (wider_same s s closed refl) o fits-reader e

  pub room-second : (u v : Slots) → IsClosed s → u ≡ widened (one_method reader) s → v ≡ widened (one_method writer) u → Wider s v
  room-second u v closed e f =
      let is : u ≡ one = e ∙ roomy-is s reader in
      wider_room s u v writer (room-first u closed e) (subst IsOrderly (sym is) (orderly-more s reader o fits-reader)) (subst (λ (t : Slots). FitsMethod t writer) (sym is) one-fits) f

  pub room-is : (u v : Slots) → u ≡ widened (one_method reader) s → v ≡ widened (one_method writer) u → v ≡ two
  room-is u v e f = f ∙ ap (widened (one_method writer)) (e ∙ roomy-is s reader) ∙ roomy-is one writer

  -- the image of the slots with room is the same
  still : (ms : List MethodRec) (k : ℕ) → k < length ms → slice_get ((ms ++ reader ∷ []) ++ writer ∷ []) k ≡ slice_get ms k
  still ms k less =
      let longer : k < length (ms ++ reader ∷ []) = omega (arith, length-end ms reader, less) in
      get-append (ms ++ reader ∷ []) (writer ∷ []) k longer ∙ get-append ms (reader ∷ []) k less

  abbrev e : MethodRec → EntryOf ℕ
  e = entry_of s.classes

  live-still : (ms : List MethodRec) → length ms ≡ length s.methods → map e (live ((ms ++ reader ∷ []) ++ writer ∷ []) s.method_order) ≡ map e (live ms s.method_order)
  live-still ms many =
      live-same e e ((ms ++ reader ∷ []) ++ writer ∷ []) ms s.method_order
      (λ k l. ap (option_map e) (still ms k (let below : k < length s.methods = o.method_order.below k l in omega (arith, below, many))))

  room-image : number_image two ≡ number_image s
  room-image = λ j. record (number_image s) { methods = live-still s.methods refl j }

  -- the numbers of both slots, and the order after
  abbrev first : ℕ
  first = length s.methods

  abbrev second : ℕ
  second = length (s.methods ++ reader ∷ [])

  abbrev order : List ℕ
  order = s.method_order ++ first ∷ []

  second-absent : list_any (eqb second) order ≡ false
  second-absent = new-absent (record s { methods = s.methods ++ reader ∷ []; method_order = order }) (method-added s o reader fits-reader)

  module _ (cs : List Change) (ps : List Place) (made : Remade s a cs ps) where
    abbrev ms : List MethodRec
    ms = made.methods

    abbrev start : Slots
    start = with_code s a made.methods made.doits

    abbrev roomy : Slots
    roomy = and_method (and_method start reader) writer

    first-before : slice_get (ms ++ reader ∷ []) first ≡ Some reader
    first-before = ap (slice_get (ms ++ reader ∷ [])) (sym made.as_many) ∙ get-middle ms reader []

    first-there : slice_get ((ms ++ reader ∷ []) ++ writer ∷ []) first ≡ Some reader
    first-there = get-append (ms ++ reader ∷ []) (writer ∷ []) first (slice_get_within (ms ++ reader ∷ []) first reader first-before) ∙ first-before

    second-there : slice_get ((ms ++ reader ∷ []) ++ writer ∷ []) second ≡ Some writer
    second-there =
        let many : second ≡ length (ms ++ reader ∷ []) = length-end s.methods reader ∙ ap suc (sym made.as_many) ∙ sym (length-end ms reader) in
        ap (slice_get ((ms ++ reader ∷ []) ++ writer ∷ [])) many ∙ get-middle (ms ++ reader ∷ []) writer []

    -- the changes in order
    abbrev cs_first : List Change
    cs_first = cs ++ change.Live (slot.Method first) (Some (length s.method_order)) ∷ []

    abbrev cs_both : List Change
    cs_both = cs_first ++ change.Live (slot.Method second) (Some (length order)) ∷ []

    abbrev ps_first : List Place
    ps_first = ps ++ place.Method first ∷ []

    abbrev ps_both : List Place
    ps_both = ps_first ++ place.Method second ∷ []

    abbrev end : Slots
    end = record roomy { method_order = order ++ second ∷ [] }

    leads-room : Leads two cs ps roomy
    leads-room =
        leads-more one cs ps (and_method start reader) writer (orderly-more s reader o fits-reader)
        (leads-more s cs ps start reader o made.leads (record { names_known = reads_known; class_live = fits-reader.class_live }))
        (record { names_known = writes_known; class_live = fits-writer.class_live })

    leads-first : Leads two cs_first ps_first (record roomy { method_order = order })
    leads-first = leads-last two cs ps roomy first reader leads-room (new-absent s o) first-there (record { names_known = reads_known; class_live = fits-reader.class_live })

    leads-both : Leads two cs_both ps_both end
    leads-both =
        leads-last two cs_first ps_first (record roomy { method_order = order }) second writer leads-first second-absent second-there (record { names_known = writes_known; class_live = fits-writer.class_live })

    -- the methods after
    methods-are : map e (live roomy.methods (order ++ second ∷ [])) ≡ (map e (live ms s.method_order) ++ e reader ∷ []) ++ e writer ∷ []
    methods-are =
        live-append e roomy.methods order (second ∷ [])
        ∙ (λ j. (live-append e roomy.methods s.method_order (first ∷ []) j) ++ live-cons e roomy.methods second writer [] second-there j)
        ∙ (λ j. (live-still ms made.as_many j ++ live-cons e roomy.methods first reader [] first-there j) ++ e writer ∷ [])

    -- the image after
    abbrev with_both : ImageOf ℕ → EntryOf ℕ → EntryOf ℕ → ImageOf ℕ
    with_both i get set = record i { methods = (i.methods ++ get ∷ []) ++ set ∷ [] }

    abbrev get : EntryOf ℕ
    get = new_method a.class false accessing ((number_writing s.names).method_text (getter a.variable)) (getter a.variable)

    abbrev set : EntryOf ℕ
    set = new_method a.class false accessing ((number_writing s.names).method_text (setter_of a.variable a.setter a.parameter)) (setter_of a.variable a.setter a.parameter)

    reader-is : e reader ≡ get
    reader-is = λ j. record { class = (named-slot s.classes s.class_order a.class class found).1 j; meta = false; protocol = accessing; source = (number_writing s.names).method_text (reads_is j); tree = reads_is j; kernel = false }

    writer-is : e writer ≡ set
    writer-is = λ j. record { class = (named-slot s.classes s.class_order a.class class found).1 j; meta = false; protocol = accessing; source = (number_writing s.names).method_text (writes_is j); tree = writes_is j; kernel = false }

    image-is : number_image end ≡ variable_abstracted (number_words s.names) (number_writing s.names) a.self_name a.class a.variable a.setter a.parameter (number_image s)
    image-is =
        (λ j. record (number_image start) { methods = methods-are j })
        ∙ (λ j. with_both (made.image j) (reader-is j) (writer-is j))

    effect-is : a.self_name ≡ (asked_by s.names).self_name → number_image end ≡ effect (asked_by s.names) (number_writing s.names) (abstraction_command a) (number_image two)
    effect-is self =
        image-is
        ∙ ap (λ (n : ℕ). variable_abstracted (number_words s.names) (number_writing s.names) n a.class a.variable a.setter a.parameter (number_image s)) self
        ∙ ap (effect (asked_by s.names) (number_writing s.names) (abstraction_command a)) (sym room-image)

    -- the plan
    pub plan-is : a.self_name ≡ (asked_by s.names).self_name → (u v : Slots) (p q j k : ℕ) (ds fs : List Change) (qs rs : List Place) → u ≡ widened (one_method reader) s → v ≡ widened (one_method writer) u
        → p ≡ length s.method_order → q ≡ p + 1 → j ≡ length s.methods → k ≡ length u.methods
        → ds ≡ cs ++ change.Live (slot.Method j) (Some p) ∷ [] → fs ≡ ds ++ change.Live (slot.Method k) (Some q) ∷ [] → qs ≡ ps ++ place.Method j ∷ [] → rs ≡ qs ++ place.Method k ∷ []
        → IsPlan v (abstraction_command a) fs rs
    plan-is self u v p q j k ds fs qs rs room more p_is q_is j_is k_is ds_is fs_is qs_is rs_is =
        let k_second : k ≡ second = k_is ∙ ap (λ (t : Slots). length t.methods) (room ∙ roomy-is s reader) in
        let q_last : q ≡ length order = q_is ∙ ap (λ (n : ℕ). n + 1) p_is ∙ (let l : length order ≡ suc (length s.method_order) = length-end s.method_order first in omega (arith, l)) in
        let fs_both : fs ≡ cs_both = fs_is ∙ (λ i. (ds_is ∙ (λ h. cs ++ change.Live (slot.Method (j_is h)) (Some (p_is h)) ∷ [])) i ++ change.Live (slot.Method (k_second i)) (Some (q_last i)) ∷ []) in
        let rs_both : rs ≡ ps_both = rs_is ∙ (λ i. (qs_is ∙ (λ h. ps ++ place.Method (j_is h) ∷ [])) i ++ place.Method (k_second i) ∷ []) in
        let plan : IsPlan two (abstraction_command a) cs_both ps_both = leads-plan two (abstraction_command a) cs_both ps_both end leads-both refl (effect-is self) in
        subst (λ (t : Slots). IsPlan t (abstraction_command a) fs rs) (sym (room-is u v room more))
        (subst (λ (xs : List Change). IsPlan two (abstraction_command a) xs rs) (sym fs_both) (subst (λ (xs : List Place). IsPlan two (abstraction_command a) cs_both xs) (sym rs_both) plan))
