use Rattle.std.proofs.Common.{rules}
use Rattle.moving.proofs.Places.{places_counted}
use Rattle.moving.proofs.Moment.up_to_v.Goals as goal

pub returns : goal.returns
returns c = rw (places_counted c.args.self.now.v.0 c.args.k.now) (search rules)
