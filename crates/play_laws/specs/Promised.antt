-- What is promised of the file that `team` prints after the lines of the events.
use Rattle.std.specs.Prelude.{◌≡◌, List, Ok}
use Rattle.std.specs.List.{AllByRecursion}
use Rattle.token_model.specs.declared.kind.Dialect.TheVariants.{Second}
use Rattle.st_kernel.specs.KernelText.{prelude_text}
use Rattle.image_model.specs.Image.{ImageOf}
use Rattle.image_model.specs.Valid.{IsValid}
use Rattle.image_model.specs.Words.{text_words}
use Rattle.run_model.specs.Matched.{AreMatched}
use Rattle.file_model.specs.Fileable.{reading_of}
use Rattle.file_model.specs.Reading.{IsImageOf}
use Rattle.file_model.specs.Written.{file_of}
use Rattle.file_rereading.specs.Rereading.{IsWithinLimits, with_heads}
use Rattle.history_model.specs.Rules.{Asks}
use Rattle.ruled_model.specs.RuledScripts.{Line, History, Version, ruled_verdict}
use Rattle.ruled_laws.specs.SpelledRequests.{IsSpelledAsked}
use Rattle.team_laws.specs.Logs.{movers, led}
use Rattle.script_model.specs.Makers.{Text}
use Rattle.log_model.specs.Events.{Event, LogSays}
use Rattle.play_model.specs.Replies.{team_rules, opening, led_to}
use Rattle.play_model.specs.Played.{played}

-- A script makes this version of an image. What its lines ask for is well spelled, and there is no undo and no redo among them that the script needs.
pub record IsScripted (i : ImageOf Text) (v : Version) : Type 0 where
  pub script : List Line
  pub spelled : AllByRecursion (Asks IsSpelledAsked) script
  pub history : History
  pub accepted : ruled_verdict i script ≡ Ok history
  pub same : history.now ≡ v

-- the version of an image at the end of a log
abbrev pub version_at_end : ImageOf Text → List Event → Version
version_at_end i events = (led_to i events).history.now

-- What is printed are the lines of the events of a log in the image of a file, and the file of the image at the end. The versions are those to which the movers of the log lead, each accepted commit of at least one command being one group. The image at the end is one that a script makes; it is valid behind the kernel, and matched with the first one up to what is renamed; and within the limits of a file its text is read again as that image, with the do-its at its head counted anew, which is matched too.
pub record IsPlayedFile (text log printed : Text) : Type 0 where
  pub image : ImageOf Text
  pub is_image : IsImageOf Second prelude_text text image
  pub events : List Event
  pub says : LogSays log events
  pub file : printed ≡ played image events
  pub history : led team_rules (opening image).history (movers team_rules (opening image) events) ≡ Ok (led_to image events).history
  pub scripted : IsScripted image (version_at_end image events)
  pub valid : IsValid text_words (reading_of Second is_image.kernel) (version_at_end image events).image
  pub matched : AreMatched image (version_at_end image events).image (version_at_end image events).renaming
  pub read_again : IsWithinLimits (version_at_end image events).image → IsImageOf Second prelude_text (file_of (version_at_end image events).image) (with_heads (version_at_end image events).image)
  pub matched_again : AreMatched image (with_heads (version_at_end image events).image) (version_at_end image events).renaming
