use Rattle.std.proofs.Common.{List, ◌∷◌, ◌++◌, [], map, ap, ◌∙◌, rules}
use Rattle.swim_trail.specs.Noted.{map_more}
use Rattle.swimsim.specs.Sightings.{Sighting, played_in, sighting_in}
use Rattle.swimsim.proofs.verifying.FileExaminerExaminer.examine.Goals as goal

pub returns : goal.returns
returns c = record {
  played = played_in c.play-played.result;
  more = map_more sighting_in c.args.self.now.examined.items c.note.new.self.items _ c.note.ensures
      ∙ ap (λ (f : Sighting). map sighting_in c.args.self.now.examined.items ++ f ∷ []) (search rules);
  sees = c.seen_of-seen.ensures;
}
