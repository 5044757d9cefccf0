use Rattle.std.proofs.Common.{◌≡◌, refl, sym, ◌∙◌}
use Rattle.scope_model.specs.SpecialNames.{one_block_selectors, two_block_selectors, loop_selectors}
use Rattle.image_model.specs.Image.{ImageOf}
use Rattle.image_model.proofs.Lists.{all-implies}
use Rattle.run_model.specs.Values.{Name}
use Rattle.run_model.specs.ObjectPrimitives.{value_classes}
use Rattle.run_model.specs.Runs.{run}
use Rattle.run_model.specs.Renamings.{Renaming, composed, class_image, selector_image}
use Rattle.resolved_model.specs.ResolvedImages.{resolved_image}
use Rattle.mapped_model.specs.NameMaps.{NameMaps}
use Rattle.mapped_model.specs.NamesInUse.{IsAmong}
use Rattle.mapped_model.specs.NamesOfImages.{names_in}
use Rattle.mapped_model.specs.RenamedRuns.{RunsAsRenamed}
use Rattle.inverse_laws.specs.Inverse.{TakesBack}
use Rattle.inverse_laws.proofs.Kept.{maps, image-kept}
use Rattle.inverse_laws.proofs.Backward.{HasNamesBack, matched-back, runs-back}
use Rattle.inverse_laws.proofs.laws.law_matched_back.Goals as goal

pub returns : goal.returns
returns k = record {
  matched = λ i j r q back h. matched-back i r q (names-back i r q back) j h;
  runs = λ i j r q back h. runs-back i r q (names-back i r q back) j h;
  composed = λ i j k2 r q a b. k.law_matched.ensures.composed k2 j i q r (composed q r) (k.law_renamings_composed.ensures.composite q r) b a;
}
  where
    -- an image runs as itself, with both renamings one after the other
    itself : (i : ImageOf Name) (r q : Renaming) → TakesBack (names_in i) r q → RunsAsRenamed i i (composed r q)
    itself i r q back =
        let p : Renaming = composed r q in
        let is = k.law_renamings_composed.ensures.composite r q in
        let class_kept : (c : Name) → IsAmong (names_in i).classes c → class_image p c ≡ c = λ c t. is.classes c ∙ back.classes c t in
        let selector_kept : (s : Name) → IsAmong (names_in i).selectors s → selector_image p s ≡ s = λ s t. is.selectors s ∙ back.selectors s t in
        let has = k.law_matched_images.ensures.words i in
        let uses = k.law_matched_images.ensures.names i in
        let f : NameMaps = maps (names_in i) (class_image p) (selector_image p) class_kept selector_kept in
        k.law_matched_by_maps.ensures.same_in_all_classes p f (names_in i) i i (λ c. refl) (λ s. refl)
        (record {
          class = λ c d t v e. sym (class_kept c t) ∙ e ∙ class_kept d v;
          selector = λ s t a b e. sym (selector_kept s a) ∙ e ∙ selector_kept t b;
          shared = λ a b x y e. e;
          instance = λ c n m x y e. e;
          class_side = λ c n m x y e. e;
        })
        (record { instance = λ a b x y e. e; class_side = λ a b x y e. e }) has
        (record {
          nothing = class_kept _ has.nothing;
          classes = all-implies _ _ class_kept value_classes has.classes;
          one_block = all-implies _ _ selector_kept one_block_selectors has.one_block;
          two_blocks = all-implies _ _ selector_kept two_block_selectors has.two_blocks;
          loops = all-implies _ _ selector_kept loop_selectors has.loops;
        })
        (record { instance = λ c d n. refl; class_side = λ c d n. refl }) uses
        (sym (image-kept (names_in i) (class_image p) (selector_image p) class_kept selector_kept (resolved_image i) uses))

    -- so each run has its names back
    names-back : (i : ImageOf Name) (r q : Renaming) → TakesBack (names_in i) r q → HasNamesBack i r q
    names-back i r q back =
        let is = k.law_renamings_composed.ensures.composite r q in
        let same = itself i r q back in
        record {
          events = λ n. sym (k.law_renamings_composed.ensures.events r q (composed r q) (run i n).events is) ∙ sym (same.events n);
          outcome = λ n. sym (k.law_renamings_composed.ensures.outcome r q (composed r q) (run i n).outcome is) ∙ sym (same.outcome n);
        }
