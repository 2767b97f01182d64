-- What a reader is that got whole frames and nothing else. Definitions only.
use Rattle.std.specs.Prelude.{ℕ, ◌+◌, ◌*◌, List, [], length}
use Rattle.rules.specs.Reader.{Reader, wrap}

-- the reader r once the frames came that it wants, and nothing else: it has just them and holds nothing; what it had collected before is cleared, and nothing is discarded
abbrev pub gathered : Reader → List (List ℕ) → Reader
gathered r frames =
    record {
      config = r.config;
      collected = frames;
      held = [];
      taken = wrap (r.taken + 13 * length frames);
      discarded = r.discarded;
      cleared = wrap (r.cleared + length r.collected);
      mark = r.mark;
    }
