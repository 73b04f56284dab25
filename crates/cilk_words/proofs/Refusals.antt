-- What an error of the command line tells of the words.
use Rattle.std.proofs.Common.{◌≡◌, ◌⊎◌, ◌||◌, ◌&&◌, ◌∙◌, inl, inr, refl, sym, ap, Bool, true, false, List, [], ◌∷◌, Option, None}
use Rattle.std.specs.List.{list_all, list_any}
use Rattle.std.proofs.Math.Bool.{or-true}
use Rattle.clap.specs.Kinds.{IsAmong, Kinds}
use Rattle.clap.specs.Words.{Row, Text, fault_of, subcommand_of}
use Rattle.clap.specs.declared.error.kind.ErrorKind.{ErrorKind}
use Rattle.clap.specs.declared.error.kind.ErrorKind.TheVariants.{OutOfMemory}
use Rattle.cilk_words.specs.declared.refusal.NoRequest.{NoRequest}
use Rattle.cilk_words.specs.declared.refusal.NoRequest.TheVariants as refusal
use Rattle.cilk_words.specs.CommandLine.{asked, command_line, unless_fault, wished}
use Rattle.cilk_words.specs.Refusing.{IsNoRequest, TellsOf, are_shown, is_help, is_shown, is_version}

nothing_asked : (kinds : Kinds) (sub : Option (Text × List Row)) (k : ErrorKind) → IsAmong k kinds → unless_fault kinds sub ≡ None
nothing_asked [] sub k among = absurd among
nothing_asked (x ∷ xs) sub k among = refl

any_is : (test : ErrorKind → Bool) (k : ErrorKind) (kinds : Kinds) → IsAmong k kinds → test k ≡ true → list_any test kinds ≡ true
any_is test k [] among is = absurd among
any_is test k (x ∷ xs) (inl same) is = ap (λ b. b || list_any test xs) (ap test (sym same) ∙ is)
any_is test k (x ∷ xs) (inr among) is = ap (λ b. test x || b) (any_is test k xs among is) ∙ or-true (test x)

not_all : (k : ErrorKind) (kinds : Kinds) → IsAmong k kinds → is_shown k ≡ false → list_all is_shown kinds ≡ false
not_all k [] among is = absurd among
not_all k (x ∷ xs) (inl same) is = ap (λ b. b && list_all is_shown xs) (ap is_shown (sym same) ∙ is)
not_all k (x ∷ xs) (inr among) is = ap (λ b. is_shown x && b) (not_all k xs among is) ∙ no_and (is_shown x)
  where
    no_and : (b : Bool) → b && false ≡ false
    no_and true = refl
    no_and false = refl

not_shown : (k : ErrorKind) (kinds : Kinds) → IsAmong k kinds → is_shown k ≡ false → are_shown kinds ≡ false
not_shown k [] among is = absurd among
not_shown k (x ∷ xs) among is = not_all k (x ∷ xs) among is

asks_nothing : (words : List Text) → wished words ≡ None → asked words ≡ None
asks_nothing words none = rw none refl

-- an error of one of the kinds that the words lead to tells of the words
pub told : (words : List Text) (k : ErrorKind) (r : NoRequest) → (k ≡ OutOfMemory) ⊎ IsAmong k (fault_of command_line words) → TellsOf k r → IsNoRequest words r
told words k refusal.Memory why tells = tt
told words k (refusal.Clash which) why tells = absurd tells
told words k (refusal.Help text) (inl memory) tells = cc
told words k (refusal.Help text) (inr among) tells =
    (asks_nothing words (nothing_asked _ (subcommand_of command_line words) k among), any_is is_help k _ among (ap is_help tells))
told words k (refusal.Version text) (inl memory) tells = cc
told words k (refusal.Version text) (inr among) tells =
    (asks_nothing words (nothing_asked _ (subcommand_of command_line words) k among), any_is is_version k _ among (ap is_version tells))
told words k (refusal.Usage text) (inl memory) tells = absurd (tells.1 memory)
told words k (refusal.Usage text) (inr among) tells =
    (asks_nothing words (nothing_asked _ (subcommand_of command_line words) k among), not_shown k _ among tells.0)

-- ---- words without a fault
