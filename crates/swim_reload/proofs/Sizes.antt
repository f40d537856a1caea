-- How long the answer to a reload is at the most.
use Rattle.std.proofs.Common.{◌≤◌, ℕ, Bool, true, false, List, [], ◌∷◌, ◌++◌, length, codes, arith, cond}
use Rattle.std.proofs.lemmas.List.{length-append}
use Rattle.swim_config.specs.declared.config.Config.{Config}
use Rattle.swim_config.specs.declared.keys.ConfigKey.{ConfigKey}
use Rattle.swim_reload.specs.InForce.{is_in_force, start_keys}
use Rattle.swim_reload.specs.Reloaded.{end_text, reloaded_text, start_text, told_text, told_texts}

-- that each of these keys needs a start
abbrev start_texts : List ConfigKey → List ℕ
start_texts [] = []
start_texts (key ∷ others) = start_text key ++ start_texts others

both_shorter : (a b c d : List ℕ) → length a ≤ length c → length b ≤ length d → length (a ++ b) ≤ length (c ++ d)
both_shorter a b c d p q = rw (length-append a b, length-append c d) (omega (arith, p, q))

if_told : (is_told : Bool) (text : List ℕ) → length (cond is_told [] text) ≤ length text
if_told true text = omega arith
if_told false text = omega arith

told_shorter : (started read : Config) (keys : List ConfigKey) →
    length (told_texts started read keys) ≤ length (start_texts keys)
told_shorter started read [] = omega arith
told_shorter started read (key ∷ others) =
    both_shorter (told_text started read key) (told_texts started read others) (start_text key) (start_texts others)
    (if_told (is_in_force key started read) (start_text key)) (told_shorter started read others)

end_shorter : (started read : Config) → length (end_text started read) ≤ length (start_texts start_keys ++ codes "\n")
end_shorter started read =
    both_shorter (told_texts started read start_keys) (codes "\n") (start_texts start_keys) (codes "\n")
    (told_shorter started read start_keys) (omega arith)

-- the answer that tells all keys is the longest
pub at_most_439 : (started read : Config) → length (reloaded_text started read) ≤ 439
at_most_439 started read =
    both_shorter (codes "reloaded") (end_text started read) (codes "reloaded") (start_texts start_keys ++ codes "\n")
    (omega arith) (end_shorter started read)
