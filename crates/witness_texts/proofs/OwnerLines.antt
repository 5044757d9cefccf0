-- The code of an owner, and the owner over texts.
use Rattle.std.proofs.Common.{◌≡◌, ℕ, zero, suc, ◌+◌, List, [], ◌∷◌, ◌++◌, map, Bor, false, not, Option, Some, slice_get, refl, sym, ap, subst, ◌∙◌, arith}
use Rattle.std.specs.Prelude.{codes}
use Rattle.std.specs.Fmt.{decimal}
use Rattle.std.specs.List.{cons_option}
use Rattle.std.specs.Option.{option_map, option_map_or}
use Rattle.rb_base.specs.Names.{name_at}
use Rattle.token_model.specs.declared.kind.Dialect.TheVariants.{Second}
use Rattle.grammar_model.specs.Spans.{Span}
use Rattle.grammar_model.specs.Spelling.{SpellsDoItAt, SpellsMethodAt}
use Rattle.image_model.specs.Image.{EntryOf, map_entry, map_doit}
use Rattle.image_model.specs.Nodes.{in_method}
use Rattle.query_model.specs.Lines.{Text, method_title}
use Rattle.command_model.specs.Parts.{Part}
use Rattle.command_model.specs.PartsOfText.{span_of_part}
use Rattle.class_table.specs.declared.record.MethodRec.{MethodRec}
use Rattle.class_table.specs.declared.record.MethodInfo.{MethodInfo}
use Rattle.class_table.specs.declared.record.DoIt.{DoIt}
use Rattle.class_table.specs.Info.{TellsOf}
use Rattle.class_table.specs.Slots.{Slots}
use Rattle.class_table.specs.View.{live, live_at, entry_of, doit_of, image_of}
use Rattle.class_table.specs.Valid.{IsLive, IsOrderly}
use Rattle.class_table.proofs.Live.{IsLive-first, IsLive-rest, there}
use Rattle.class_questions.proofs.AnyLive.{live-live_at}
use Rattle.st_spans.specs.Trees.{OfMethod}
use Rattle.image_queries.specs.Parts.{title_of}
use Rattle.refusal_witnesses.specs.Witnesses.{OwnerOf, AtPlace, InMethod}
use Rattle.refusal_witnesses.specs.Lines as lines
use Rattle.witness_lists.specs.declared.witness.Owner.{Owner}
use Rattle.witness_lists.specs.declared.witness.Owner.TheVariants as owner
use Rattle.witness_lists.specs.Views.{owner_of}
use Rattle.witness_numbers.specs.MappedWitnesses.{map_owner}
use Rattle.witness_texts.specs.declared.code.Code.{Code}
use Rattle.witness_texts.specs.declared.code.Code.TheVariants as code
use Rattle.witness_texts.specs.Code.{IsTold, IsCodeOf, code_title, whole_title, is_users as is_code_users, StandsThere}

-- what is at a place of a mapped list
get-map : {X Y : Type 0} (g : X → Y) (xs : List X) (k : ℕ) → slice_get (map g xs) k ≡ option_map g (slice_get xs k)
get-map g [] k = refl
get-map g (x ∷ xs) zero = refl
get-map g (x ∷ xs) (suc k) = get-map g xs k

-- what is at a place of the list of what live slots hold
get-live : {X : Type 0} (xs : List X) (order : List ℕ) (n k : ℕ) → ((j : ℕ) → IsLive order j → (x : X) × (slice_get xs j ≡ Some x)) → slice_get order n ≡ Some k → slice_get (live xs order) n ≡ slice_get xs k
get-live xs [] n k held e = absurd (cc)
get-live xs (j ∷ js) zero k held e =
    let x = held j (IsLive-first j js) in
    let same : j ≡ k = cc in
    ap (λ o. slice_get (cons_option o (live xs js)) 0) x.1 ∙ sym x.1 ∙ ap (slice_get xs) same
get-live xs (j ∷ js) (suc n) k held e =
    let x = held j (IsLive-first j js) in
    ap (λ o. slice_get (cons_option o (live xs js)) (suc n)) x.1 ∙ get-live xs js n k (λ i l. held i (IsLive-rest i j js l)) e

module _ (s : Slots) (orderly : IsOrderly s) where
  -- a name as text, and a method over texts
  abbrev text : ℕ → Text
  text = name_at s.names

  abbrev entry : MethodRec → EntryOf Text
  entry m = map_entry text (entry_of s.classes m)

  -- the owner over texts
  abbrev pub owner_there : Owner → OwnerOf Text
  owner_there o = map_owner text (owner_of s o)

  -- the method of a live slot
  slot-owner : (k : ℕ) (m : MethodRec) → live_at s.methods s.method_order k ≡ Some m → owner_there (owner.Method k) ≡ InMethod (entry m)
  slot-owner k m e =
      ap (λ (o : Option MethodRec). map_owner text (option_map_or InMethod (option_map (entry_of s.classes) o) (AtPlace (in_method k)))) (live-live_at s.methods s.method_order k m e).1

  -- the method of a number
  numbered : (n k : ℕ) (m : MethodRec) → slice_get s.method_order n ≡ Some k → live_at s.methods s.method_order k ≡ Some m → slice_get (image_of s).methods n ≡ Some (entry m)
  numbered n k m at e =
      get-map (map_entry text) (map (entry_of s.classes) (live s.methods s.method_order)) n
      ∙ ap (option_map (map_entry text)) (get-map (entry_of s.classes) (live s.methods s.method_order) n
      ∙ ap (option_map (entry_of s.classes)) (get-live s.methods s.method_order n k (λ j l. there s.methods j (orderly.method_order.below j l)) at ∙ (live-live_at s.methods s.method_order k m e).1))

  -- the do-it of a number
  doit : (n : ℕ) (d : DoIt) → slice_get s.doits n ≡ Some d → slice_get (image_of s).doits n ≡ Some (map_doit text (doit_of d))
  doit n d e = get-map (map_doit text) (map doit_of s.doits) n ∙ ap (option_map (map_doit text)) (get-map doit_of s.doits n ∙ ap (option_map doit_of) e)

  -- the title of a method that is told
  title-told : (info : MethodInfo) (m : MethodRec) → TellsOf info m → title_of s.names s.classes info.class info.meta info.selector ≡ method_title (entry m)
  title-told info m t = λ i. title_of s.names s.classes (t.class i) (t.meta i) (t.selector i)

  -- the class of such a method is live
  pub told-live : (k : ℕ) (info : MethodInfo) → IsTold s k (code.Method info) → IsLive s.class_order info.class
  told-live k info t =
      let held = live-live_at s.methods s.method_order k t.0 t.1 in
      subst (IsLive s.class_order) (sym t.2.class) (orderly.method_classes_live k t.0 held.0 held.1)

  pub owner-live : (o : Owner) (info : MethodInfo) → IsCodeOf s o (code.Method info) → IsLive s.class_order info.class
  owner-live (owner.Method k) info t = told-live k info t
  owner-live (owner.Numbered n) info t = told-live t.0 info t.2
  owner-live (owner.DoIt n) info t = absurd t

  -- what is told is told of the owner
  pub record OwnerTold (o : Owner) (c : Code) : Type 0 where
    pub title : lines.owner_title (image_of s) (owner_there o) ≡ code_title s.names s.classes c
    pub whole : lines.whole_title (image_of s) (owner_there o) ≡ whole_title s.names s.classes c
    pub users : lines.is_of_user (image_of s) (owner_there o) ≡ is_code_users c
    pub stands : (part : Part) (span : Span) → StandsThere c part span → lines.StandsIn (image_of s) (owner_there o) part span

  -- the parts of a method that is told
  in_told : (info : MethodInfo) (m : MethodRec) → TellsOf info m → (part : Part) (span : Span) → OfMethod info.source.now (λ b. span_of_part b part ≡ Some span) → lines.IsInMethod (entry m) part span
  in_told info m t part span h = record { tree = h.tree; spells = subst (λ (source : Text). SpellsMethodAt Second false source h.tree) t.source h.spells; at = h.holds }

  -- of a method in a slot
  slot-told : (k : ℕ) (info : MethodInfo) → IsTold s k (code.Method info) → OwnerTold (owner.Method k) (code.Method info)
  slot-told k info (m, e, t) =
      let same = slot-owner k m e in
      record {
        title = ap (lines.owner_title (image_of s)) same ∙ sym (title-told info m t);
        whole = ap (lines.whole_title (image_of s)) same ∙ ap (λ (x : Text). codes "method " ++ x) (sym (title-told info m t));
        users = ap (lines.is_of_user (image_of s)) same ∙ ap not (sym t.kernel);
        stands = λ part span h. subst (λ (o : OwnerOf Text). lines.StandsIn (image_of s) o part span) (sym same) (in_told info m t part span h);
      }

  -- of a method by its number
  number-told : (n k : ℕ) (info : MethodInfo) → slice_get s.method_order n ≡ Some k → IsTold s k (code.Method info) → OwnerTold (owner.Numbered n) (code.Method info)
  number-told n k info at (m, e, t) =
      let there = numbered n k m at e in
      let title = ap (λ (o : Option (EntryOf Text)). option_map_or method_title o []) there ∙ sym (title-told info m t) in
      record {
        title = title;
        whole = ap (λ (x : Text). codes "method " ++ x) title;
        users = ap (λ (o : Option (EntryOf Text)). option_map_or (λ (x : EntryOf Text). not x.kernel) o false) there ∙ ap not (sym t.kernel);
        stands = λ part span h. (entry m, there, in_told info m t part span h);
      }

  -- of a do-it
  doit-told : (n number : ℕ) (source : Bor (List ℕ)) → IsCodeOf s (owner.DoIt n) (code.DoIt number source) → OwnerTold (owner.DoIt n) (code.DoIt number source)
  doit-told n number source (same, (d, at, is)) =
      let next : suc n ≡ number + 1 = omega (arith, same) in
      record {
        title = ap (λ (k : ℕ). codes "doit " ++ decimal k) next;
        whole = ap (λ (k : ℕ). codes "doit " ++ decimal k) next;
        users = refl;
        stands = λ part span h. (map_doit text (doit_of d), doit n d at, record { tree = h.tree; spells = subst (λ (t : Text). SpellsDoItAt Second t h.tree) is h.spells; at = h.holds });
      }

  pub owner-told : (o : Owner) (c : Code) → IsCodeOf s o c → OwnerTold o c
  owner-told (owner.Method k) (code.Method info) t = slot-told k info t
  owner-told (owner.Method k) (code.DoIt number source) t = absurd t
  owner-told (owner.Numbered n) (code.Method info) (k, at, t) = number-told n k info at t
  owner-told (owner.Numbered n) (code.DoIt number source) (k, at, t) = absurd t
  owner-told (owner.DoIt n) (code.Method info) t = absurd t
  owner-told (owner.DoIt n) (code.DoIt number source) t = doit-told n number source t
