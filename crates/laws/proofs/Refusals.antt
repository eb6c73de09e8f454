-- No refusal is an answer. Assumes nothing.
use mathlib.Core.Path.{◌≡◌, refl}
use mathlib.Core.Bool.{false}
use Rattle.definitions.specs.Numbers.{accepted}
use Rattle.definitions.specs.Answers.{refusal_number}
use Rattle.definitions.specs.declared.Refusal.{Refusal}
use Rattle.definitions.specs.declared.Refusal.TheVariants as why

pub refusal_refuses : (w : Refusal) → accepted (refusal_number w) ≡ false
refusal_refuses why.BadLength = refl
refusal_refuses why.BadSize = refl
refusal_refuses why.Unsupported = refl
refusal_refuses why.Nan = refl
refusal_refuses why.Infinite = refl
refusal_refuses why.ZeroDivisor = refl
refusal_refuses why.ZeroSplit = refl
