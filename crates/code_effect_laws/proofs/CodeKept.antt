-- Each command keeps images valid, where its conditions hold, also where it moves code.
use Rattle.std.proofs.Common.{◌≡◌, ◌⊎◌, inl, inr, Bool, true, false, None, refl, sym, true≢false}
use Rattle.token_model.specs.declared.kind.Dialect.TheVariants.{Second}
use Rattle.image_model.specs.Image.{ImageOf}
use Rattle.image_model.specs.Words.{text_words}
use Rattle.image_model.specs.Valid.{IsValid, IsFileable}
use Rattle.file_model.specs.Filing.{Text}
use Rattle.file_model.specs.Fileable.{reading_of}
use Rattle.file_rereading.specs.Rereading.{KernelFirst}
use Rattle.rename_model.specs.ClassRenamed.{canonical}
use Rattle.command_model.specs.Asked.{text_asked}
use Rattle.command_model.specs.Commands.{CommandOf, AbstractInstVar, ExtractMethod, InlineMethod, ExtractTemp, InlineTemp, MovesNoCode}
use Rattle.command_model.specs.Effects.{effect}
use Rattle.command_model.specs.Judged.{first_false}
use Rattle.command_model.specs.Spelled.{IsSpelled, MayBeFiled}
use Rattle.command_model.specs.AllHold.{AllHold}
use Rattle.command_model.proofs.Held.{all-hold}
use Rattle.effect_laws.proofs.Sound.{IsSound, sound_of, valid_of}
use Rattle.effect_laws.proofs.Kernel.{IsWhole}
use Rattle.effect_laws.proofs.EffectsKept as effects
use Rattle.effect_laws.proofs.Filed.{IsFiled, filed_of, fileable}
use Rattle.effect_laws.proofs.FiledCommands.{kept_filed}
use Rattle.effect_laws.proofs.KernelInFront.{AreFronts, fronts_of, first_of, front_kept}
use Rattle.kept_runs.specs.WellSpelled.{HasItsSetter}
use Rattle.code_effect_laws.proofs.AbstractKept.{abstract_sound, abstract_filed, abstract_front}
use Rattle.code_effect_laws.proofs.ExtractMethodKept.{extract_method_sound, extract_method_filed, extract_method_front}
use Rattle.code_effect_laws.proofs.InlineMethodKept.{inline_method_sound, inline_method_filed, inline_method_front}
use Rattle.code_effect_laws.proofs.ExtractTempKept.{extract_temp_sound, extract_temp_filed, extract_temp_front}
use Rattle.code_effect_laws.proofs.InlineTempKept.{inline_temp_sound, inline_temp_filed, inline_temp_front}

-- whether a command moves code
abbrev moves_code : CommandOf Text → Bool
moves_code (AbstractInstVar c x setter given) = true
moves_code (ExtractMethod c meta s from to t) = true
moves_code (InlineMethod c meta s from to) = true
moves_code (ExtractTemp c meta s from to x) = true
moves_code (InlineTemp c meta s x) = true
moves_code command = false

moves_or_not : (command : CommandOf Text) → MovesNoCode command ⊎ (moves_code command ≡ true)
moves_or_not (AbstractInstVar c x setter given) = inr refl
moves_or_not (ExtractMethod c meta s from to t) = inr refl
moves_or_not (InlineMethod c meta s from to) = inr refl
moves_or_not (ExtractTemp c meta s from to x) = inr refl
moves_or_not (InlineTemp c meta s x) = inr refl
moves_or_not command = inl tt

-- a valid image after, which can be written where the one before can, and has the kernel first where that has
record IsKept (kernel i j : ImageOf Text) (command : CommandOf Text) : Type 0 where
  sound : IsSound kernel j
  filed : MayBeFiled command → IsFiled i → IsFiled j
  front : AreFronts i → AreFronts j

module _ (kernel : ImageOf Text) (whole : IsWhole kernel) where
  moved : (i : ImageOf Text) → IsSound kernel i → (command : CommandOf Text) → moves_code command ≡ true → HasItsSetter command → AllHold text_asked i command → IsKept kernel i (effect text_asked canonical command i) command
  moved i s (AbstractInstVar c x setter given) m n h = record {
    sound = abstract_sound kernel i s whole c x setter given n h;
    filed = λ u. abstract_filed kernel i s whole c x setter given n h;
    front = abstract_front kernel i s whole c x setter given n h;
  }
  moved i s (ExtractMethod c meta t from to u) m n h = record {
    sound = extract_method_sound kernel i s whole c meta t from to u h;
    filed = λ v. extract_method_filed kernel i s whole c meta t from to u h;
    front = extract_method_front kernel i s whole c meta t from to u h;
  }
  moved i s (InlineMethod c meta t from to) m n h = record {
    sound = inline_method_sound kernel i s c meta t from to h;
    filed = λ u. inline_method_filed kernel i s c meta t from to h;
    front = inline_method_front kernel i s c meta t from to h;
  }
  moved i s (ExtractTemp c meta t from to x) m n h = record {
    sound = extract_temp_sound kernel i s c meta t from to x h;
    filed = λ u. extract_temp_filed kernel i s c meta t from to x h;
    front = extract_temp_front kernel i s c meta t from to x h;
  }
  moved i s (InlineTemp c meta t x) m n h = record {
    sound = inline_temp_sound kernel i s c meta t x h;
    filed = λ u. inline_temp_filed kernel i s c meta t x h;
    front = inline_temp_front kernel i s c meta t x h;
  }
  moved i s command m n h = absurd (true≢false (sym m))

  kept : (i : ImageOf Text) → IsSound kernel i → (command : CommandOf Text) → IsSpelled command → HasItsSetter command → AllHold text_asked i command → IsKept kernel i (effect text_asked canonical command i) command
  kept i s command spelled n h = by (moves_or_not command)
    where
      by : MovesNoCode command ⊎ (moves_code command ≡ true) → IsKept kernel i (effect text_asked canonical command i) command
      by (inl m) = record {
        sound = effects.kept kernel i s whole command m spelled h;
        filed = λ u f. kept_filed kernel i s whole f command m (spelled, u) h;
        front = front_kept kernel i s whole command m h;
      }
      by (inr m) = moved i s command m n h

  module _ (i : ImageOf Text) (command : CommandOf Text) (v : IsValid text_words (reading_of Second kernel) i) (spelled : IsSpelled command) (n : HasItsSetter command) (none : first_false text_asked i command ≡ None) where
    its : IsKept kernel i (effect text_asked canonical command i) command
    its = kept i (sound_of kernel i v) command spelled n (all-hold text_asked i command none)

    pub kept_valid : IsValid text_words (reading_of Second kernel) (effect text_asked canonical command i)
    kept_valid = valid_of kernel (effect text_asked canonical command i) its.sound

    pub kept_fileable : MayBeFiled command → IsFileable (reading_of Second kernel) i → IsFileable (reading_of Second kernel) (effect text_asked canonical command i)
    kept_fileable u f = fileable kernel (effect text_asked canonical command i) its.sound (its.filed u (filed_of kernel i (sound_of kernel i v) f))

    pub kept_first : KernelFirst kernel i → KernelFirst kernel (effect text_asked canonical command i)
    kept_first f = first_of kernel (effect text_asked canonical command i) its.sound (its.front (fronts_of kernel i (sound_of kernel i v) f))
