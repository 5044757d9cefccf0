-- `inlineMethod` keeps images valid, where its conditions hold.
use Rattle.std.proofs.Common.{◌≡◌, ℕ, ◌≤◌, Bool, true, false, not, List, [], ◌∷◌, Option, Some, None, option_and_then, option_map, refl, sym, ap, subst, ◌∙◌}
use Rattle.std.specs.Prelude.{if◌then◌else◌, unwrap_or, find}
use Rattle.std.specs.Option.{option_map_or, option_or}
use Rattle.std.proofs.lemmas.Bool.{and_parts, not-true, leb-true}
use Rattle.rb_base.specs.Names.{text_eq}
use Rattle.tree_model.specs.Tree.{TreeOf, var, literal, send, cascade, assign, block, brace, return, MethodOf}
use Rattle.tree_model.specs.Path.{part_in}
use Rattle.tree_model.specs.Measure.{sequence_height}
use Rattle.tree_model.specs.Normal.{normal}
use Rattle.image_model.specs.Image.{ClassOf, EntryOf, ImageOf}
use Rattle.image_model.specs.Words.{text_words}
use Rattle.image_model.specs.Upwards.{first_given}
use Rattle.image_model.specs.Chain.{class_of_name, chain_from}
use Rattle.image_model.specs.Lookup.{is_method, own_method, on_chain, as_object, lookup}
use Rattle.file_model.specs.Filing.{Text}
use Rattle.rename_model.specs.ClassRenamed.{canonical}
use Rattle.command_model.specs.Asked.{text_asked}
use Rattle.command_model.specs.Commands.{InlineMethod}
use Rattle.command_model.specs.CodeHolds.{is_low_made}
use Rattle.command_model.specs.ParameterConditions.{is_low}
use Rattle.command_model.specs.Parts.{Part, Expression, Run}
use Rattle.command_model.specs.Inlined.{tree_inlined}
use Rattle.command_model.specs.InlineConditions.{is_self_send, are_actuals_plain, captures_nothing}
use Rattle.command_model.specs.Places.{users_method, SendOf, as_send, sent_by}
use Rattle.command_model.specs.Sequences.{with_tree}
use Rattle.command_model.specs.CodeEffects.{part_at, send_at, target_of, tree_inlining, tree_made}
use Rattle.command_model.specs.Effects.{effect}
use Rattle.command_model.specs.AllHold.{AllHold}
use Rattle.effect_laws.proofs.Items.{In}
use Rattle.effect_laws.proofs.Sound.{IsSound}
use Rattle.effect_laws.proofs.Tests.{there_passes}
use Rattle.effect_laws.proofs.WholeTrees.{well_of}
use Rattle.effect_laws.proofs.MethodCommands.{found_in}
use Rattle.effect_laws.proofs.Filed.{IsFiled}
use Rattle.effect_laws.proofs.KernelInFront.{AreFronts, retreed_front}
use Rattle.code_effect_laws.proofs.Proper.{AreProper}
use Rattle.code_effect_laws.proofs.Methods.{IsProperMethod, method_proper, method_part, known_in}
use Rattle.code_effect_laws.proofs.MethodGiven.{given_sound, given_filed}
use Rattle.code_effect_laws.proofs.Parts.{IsNamed, is_named, has_part}
use Rattle.code_effect_laws.proofs.Filled.{unfolded_proper}
use Rattle.code_effect_laws.proofs.MethodInlined.{inlined_proper}

-- a method that is looked up is one of the image
first_in : (i : ImageOf Text) (meta : Bool) (t : Text) (cs : List (ClassOf Text)) (m : EntryOf Text) → first_given (λ (c : ClassOf Text). own_method text_eq i.methods c.name meta t) cs ≡ Some m → In i.methods m
first_in i meta t [] m e = absurd (cc)
first_in i meta t (c ∷ cs) m e = by (own_method text_eq i.methods c.name meta t) refl e (first_in i meta t cs m)
  where
    by : (o : Option (EntryOf Text)) → own_method text_eq i.methods c.name meta t ≡ o → option_or o (first_given (λ (d : ClassOf Text). own_method text_eq i.methods d.name meta t) cs) ≡ Some m
        → (first_given (λ (d : ClassOf Text). own_method text_eq i.methods d.name meta t) cs ≡ Some m → In i.methods m) → In i.methods m
    by None q h rest = rest h
    by (Some n) q h rest = found_in (is_method text_eq c.name meta t) i.methods m (q ∙ h)

lookup_in : (i : ImageOf Text) (c : Option Text) (meta : Bool) (t : Text) (m : EntryOf Text) → lookup text_words i c meta t ≡ Some m → In i.methods m
lookup_in i c meta t m e = by (on_chain text_eq i (class_of_name text_eq i.classes c) meta t) refl meta e
  where
    by : (o : Option (EntryOf Text)) → on_chain text_eq i (class_of_name text_eq i.classes c) meta t ≡ o → (b : Bool) → option_or o (if b then as_object text_words i t else None) ≡ Some m → In i.methods m
    by (Some n) q b h = first_in i meta t (chain_from text_eq i.classes (class_of_name text_eq i.classes c)) m (q ∙ h)
    by None q true h = first_in i false t (chain_from text_eq i.classes (find (λ (d : ClassOf Text). text_words.is_class d.name) i.classes)) m h
    by None q false h = absurd (cc)

-- the message that a part of a method is
pub record HasSend (i : ImageOf Text) (c : Text) (meta : Bool) (t : Text) (e : EntryOf Text × SendOf Text) : Type 0 where
  pub named : users_method text_eq i c meta t ≡ Some e.0
  pub there : part_in e.0.tree.body e.1.path ≡ Some (send e.1.receiver e.1.selector e.1.arguments)

send_there : (m : MethodOf Text) (path : List ℕ) (o : Option (TreeOf Text)) (e : SendOf Text) → part_in m.body path ≡ o → option_and_then (as_send path) o ≡ Some e → part_in m.body e.path ≡ Some (send e.receiver e.selector e.arguments)
send_there m path None e q h = absurd (cc)
send_there m path (Some (send r s xs)) e q h =
    let same : record { path = path; receiver = r; selector = s; arguments = xs } ≡ e = cc in
    subst (λ (x : SendOf Text). part_in m.body x.path ≡ Some (send x.receiver x.selector x.arguments)) same q
send_there m path (Some (var n)) e q h = absurd (cc)
send_there m path (Some (literal l)) e q h = absurd (cc)
send_there m path (Some (cascade r ms)) e q h = absurd (cc)
send_there m path (Some (assign n u)) e q h = absurd (cc)
send_there m path (Some (block ps ts ss d)) e q h = absurd (cc)
send_there m path (Some (brace ts)) e q h = absurd (cc)
send_there m path (Some (return u)) e q h = absurd (cc)

sent_there : (m : MethodOf Text) (part : Part) (e : SendOf Text) → sent_by m part ≡ Some e → part_in m.body e.path ≡ Some (send e.receiver e.selector e.arguments)
sent_there m (Expression path) e h = send_there m path (part_in m.body path) e refl h
sent_there m (Run path first n) e h = absurd (cc)

has_send : (i : ImageOf Text) (c : Text) (meta : Bool) (t : Text) (from to : ℕ) (e : EntryOf Text × SendOf Text) → send_at text_asked i c meta t from to ≡ Some e → HasSend i c meta t e
has_send i c meta t from to e h = by (part_at text_asked i c meta t from to) refl h
  where
    within : (f : EntryOf Text × Part) → part_at text_asked i c meta t from to ≡ Some f → (o : Option (SendOf Text)) → sent_by f.0.tree f.1 ≡ o → option_map (λ (x : SendOf Text). (f.0, x)) o ≡ Some e → HasSend i c meta t e
    within f q None r g = absurd (cc)
    within f q (Some x) r g =
        let same : (f.0, x) ≡ e = cc in
        let p = has_part i c meta t from to f q in
        subst (λ (y : EntryOf Text × SendOf Text). HasSend i c meta t y) same (record { named = p.named; there = sent_there f.0.tree f.1 x r })

    by : (o : Option (EntryOf Text × Part)) → part_at text_asked i c meta t from to ≡ o → option_and_then (λ (f : EntryOf Text × Part). option_map (λ (x : SendOf Text). (f.0, x)) (sent_by f.0.tree f.1)) o ≡ Some e → HasSend i c meta t e
    by None q g = absurd (cc)
    by (Some f) q g = within f q (sent_by f.0.tree f.1) refl g

module _ (kernel i : ImageOf Text) (s : IsSound kernel i) (c : Text) (meta : Bool) (t : Text) (from to : ℕ) (h : AllHold text_asked i (InlineMethod c meta t from to)) where
  -- the message
  sent : (e : EntryOf Text × SendOf Text) × (send_at text_asked i c meta t from to ≡ Some e) × (is_self_send text_asked i e.1 ≡ true)
  sent = there_passes (λ (e : EntryOf Text × SendOf Text). is_self_send text_asked i e.1) (send_at text_asked i c meta t from to) h.self_send

  abbrev its : EntryOf Text
  its = sent.0.0

  abbrev message : SendOf Text
  message = sent.0.1

  stands : HasSend i c meta t sent.0
  stands = has_send i c meta t from to sent.0 sent.1

  method : IsNamed kernel i c meta t its
  method = is_named kernel i s c meta t its stands.named

  -- the method that it finds
  target : (m : EntryOf Text) × (target_of text_asked i c meta message ≡ Some m) × (not m.kernel ≡ true)
  target = there_passes (λ (m : EntryOf Text). not m.kernel) (target_of text_asked i c meta message) (and_parts (option_map_or (λ (m : EntryOf Text). not m.kernel) (lookup text_words i (Some c) meta message.selector) false) _ (h.one_target sent.0 sent.1)).0

  target_proper : IsProperMethod target.0.tree
  target_proper = method_proper target.0.tree (well_of kernel target.0 (s.methods.spelled target.0 (lookup_in i (Some c) meta message.selector target.0 target.1) (not-true target.0.kernel target.2)))

  -- of a message and its target a condition tells
  of_both : (test : EntryOf Text → SendOf Text → EntryOf Text → Bool) → option_map_or (λ (e : EntryOf Text × SendOf Text). option_map_or (test e.0 e.1) (target_of text_asked i c meta e.1) false) (send_at text_asked i c meta t from to) false ≡ true
      → test its message target.0 ≡ true
  of_both test g =
      ap (λ o. option_map_or (test its message) o false) (sym target.1)
      ∙ ap (λ o. option_map_or (λ (e : EntryOf Text × SendOf Text). option_map_or (test e.0 e.1) (target_of text_asked i c meta e.1) false) o false) (sym sent.1) ∙ g

  arguments : AreProper (known_in its.tree message.path) message.arguments
  arguments = (method_part its.tree message.path (send message.receiver message.selector message.arguments) method.proper stands.there).3

  -- the effect on the method
  is_made : tree_made text_asked i c meta t (tree_inlining text_asked i c meta t from to) ≡ tree_inlined text_asked its.tree message target.0.tree
  is_made =
      ap (option_and_then (tree_inlining text_asked i c meta t from to)) stands.named
      ∙ ap (option_and_then (λ (e : EntryOf Text × SendOf Text). option_and_then (λ (n : EntryOf Text). tree_inlined text_asked its.tree e.1 n.tree) (target_of text_asked i c meta e.1))) sent.1
      ∙ ap (option_and_then (λ (n : EntryOf Text). tree_inlined text_asked its.tree message n.tree)) target.1

  after : (n : MethodOf Text) × (tree_inlined text_asked its.tree message target.0.tree ≡ Some n) × (is_low (normal n).body ≡ true)
  after = there_passes (λ (n : MethodOf Text). is_low (normal n).body) (tree_inlined text_asked its.tree message target.0.tree)
      (ap (is_low_made text_asked i) (sym is_made) ∙ h.shallow sent.0 sent.1 target.0 target.1)

  low : sequence_height (normal after.0).body ≤ 200
  low = leb-true (sequence_height (normal after.0).body) 200 after.2

  good : IsProperMethod after.0 × (after.0.selector ≡ its.tree.selector)
  good =
      inlined_proper its.tree method.proper message stands.there target.0.tree
      (unfolded_proper i its message target.0 (of_both (are_actuals_plain text_asked i) (h.plain_actuals sent.0 sent.1 target.0 target.1)) (of_both (captures_nothing text_asked i) (h.no_capture sent.0 sent.1 target.0 target.1)) target_proper arguments)
      after.0 after.1

  effect_is : effect text_asked canonical (InlineMethod c meta t from to) i ≡ with_tree text_eq canonical c meta t after.0 i
  effect_is = ap (λ o. unwrap_or (option_map (λ tree. with_tree text_eq canonical c meta t tree i) o) i) (is_made ∙ after.1)

  pub inline_method_sound : IsSound kernel (effect text_asked canonical (InlineMethod c meta t from to) i)
  inline_method_sound = subst (IsSound kernel) (sym effect_is) (given_sound kernel i s c meta t after.0 good.0 (good.1 ∙ method.selected) low)

  pub inline_method_filed : IsFiled i → IsFiled (effect text_asked canonical (InlineMethod c meta t from to) i)
  inline_method_filed f = subst IsFiled (sym effect_is) (given_filed kernel i s c meta t after.0 good.0 (good.1 ∙ method.selected) low f)

  pub inline_method_front : AreFronts i → AreFronts (effect text_asked canonical (InlineMethod c meta t from to) i)
  inline_method_front f = retreed_front i c meta t (tree_inlining text_asked i c meta t from to) f (users_method text_eq i c meta t)
