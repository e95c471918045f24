use Rattle.std.proofs.Common.{◌≡◌, ◌+◌, ◌++◌, ◌∷◌, ◌∙◌, [], length, sym, ap, subst, arith, append_assoc}
use Rattle.std.specs.Option.{option_copied}
use Rattle.std.proofs.lemmas.List.{length-append, append-nil, nil_from_length}
use Rattle.restore.specs.Rows.{IsPiece, lines_at}
use Rattle.restore.proofs.taking.Drawn.{at-next, each-push}
use Rattle.restore.proofs.taking.Pieces.{are_pieces, are_known}
use Rattle.restore.proofs.draws.PieceReader.in_order.Goals as goal

pub loop-drawn-init : goal.loop-drawn-init
loop-drawn-init g c =
    let none = ap length c.in_ok-pieces.ensures.items in
    (c.into_iter-drawn-iterator.ensures.into_iter_gives.0, none, λ n d lt. absurd (omega (arith, lt, none)))

pub piece_at-requires : goal.piece_at-requires
piece_at-requires g c =
    let yielded = c.loop-drawn.yielded in
    let rest = c.next.new.self.rest.items in
    let is : yielded ++ c.in-Some.drawn ∷ rest ≡ c.args.places.items = ap (λ r. yielded ++ r) (sym c.in-Some.ensures.steps.0) ∙ c.loop-drawn.invariant.0 in (
      c.type_bounds.sync-G,
      at-next (option_copied c.args.self.now.known) c.args.self.now.columns.now c.args.self.now.kinds.now c.args.self.now.lines.now c.args.places.items yielded rest c.in-Some.drawn c.len-place.result is
          (omega (arith, c.len-place.ensures, c.loop-drawn.pieces.ok.0, c.loop-drawn.invariant.1)) c.requires.at,
    )

pub loop-drawn-preserved : goal.loop-drawn-preserved
loop-drawn-preserved g c =
    let yielded = c.loop-drawn.yielded in
    let rest = c.next.new.self.rest.items in
    let x = c.in-Some.drawn in
    let is : yielded ++ x ∷ rest ≡ c.args.places.items = ap (λ r. yielded ++ r) (sym c.in-Some.ensures.steps.0) ∙ c.loop-drawn.invariant.0 in
    let pieces = c.loop-drawn.pieces.items in
    let place : c.len-place.result ≡ length pieces = omega (arith, c.len-place.ensures, c.loop-drawn.pieces.ok.0) in
    let piece = subst (λ n. IsPiece (option_copied c.args.self.now.known) c.args.self.now.columns.now c.args.self.now.kinds.now c.in_ok-piece.piece (lines_at c.args.self.now.lines.now n)) place c.in_ok-piece.ensures in (
      append_assoc yielded (x ∷ []) rest ∙ is,
      ap length c.in_ok-push.ensures.items ∙ length-append pieces (_ ∷ []) ∙ ap (λ n. n + 1) c.loop-drawn.invariant.1 ∙ sym (length-append yielded (x ∷ [])),
      each-push (option_copied c.args.self.now.known) c.args.self.now.columns.now c.args.self.now.kinds.now c.args.self.now.lines.now pieces c.push.new.self.items c.in_ok-piece.piece c.in_ok-push.ensures.items piece c.loop-drawn.invariant.2,
    )

pub returns-clause-read : goal.returns-clause-read
returns-clause-read g c =
    let rest = c.loop-drawn.drawn-iterator.rest in
    let none = nil_from_length rest.items (omega (arith, rest.ok.0, c.in-None.ensures.steps.0)) in
    let whole : length c.loop-drawn.yielded ≡ length c.args.places.items = ap length (sym (append-nil c.loop-drawn.yielded) ∙ ap (λ r. c.loop-drawn.yielded ++ r) (sym none) ∙ c.loop-drawn.invariant.0) in
    are_pieces (option_copied c.args.self.now.known) c.args.self.now.columns.now c.args.self.now.kinds.now 1000 c.loop-drawn.pieces.items c.args.self.now.lines.now
    (omega (arith, c.requires.enough, whole, c.loop-drawn.invariant.1, c.args.places.ok.0)) c.loop-drawn.invariant.2

pub returns-clause-known : goal.returns-clause-known
returns-clause-known g c = are_known (option_copied c.args.self.now.known) c.args.self.now.columns.now c.args.self.now.kinds.now 1000 c.loop-drawn.pieces.items c.args.self.now.lines.now c.loop-drawn.invariant.2
