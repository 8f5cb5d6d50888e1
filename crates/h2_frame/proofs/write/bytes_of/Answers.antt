use Rattle.h2_frame.proofs.HeaderLaws.{header_written}
use Rattle.h2_frame.proofs.write.bytes_of.Goals as goal

pub returns : goal.returns
returns c =
    let header = c.args.header in
    header_written header.length header.kind header.flags header.stream c.to_be_bytes.result c.to_be_bytes-2.result c.to_be_bytes.ensures c.to_be_bytes-2.ensures header.fits header.in_range
