-- What the code keeps of sections and ops, as what it stands for.
use Rattle.oso_read.specs.declared.body.BodyLines.{BodyLines}
use Rattle.oso_read.specs.Reading.{Body}

abbrev pub body_of : BodyLines → Body
body_of body = record { starts = body.starts.items; ops = body.ops.items; lines = body.lines.items }
