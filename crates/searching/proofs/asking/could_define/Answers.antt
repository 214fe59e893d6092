-- By the loader and the room, then by what the cache has of the superclass and of the class.
use native.Mathlib.Omega.{arith}
use Rattle.searching.proofs.Asked.{no-loader, no-room, no-super, its-name}
use Rattle.searching.proofs.asking.could_define.Goals as goal

pub returns-then-loader-ge-LOADER_LIMIT : goal.returns-then-loader-ge-LOADER_LIMIT
returns-then-loader-ge-LOADER_LIMIT c = no-loader _ _ _ _ c.if-loader-ge-LOADER_LIMIT.true

pub returns-then-not-could_keep : goal.returns-then-not-could_keep
returns-then-not-could_keep c = no-room _ _ _ _ c.if-loader-ge-LOADER_LIMIT.false _ c.could_keep.ensures c.if-not-could_keep.true

pub overflow_cast-loader : goal.overflow_cast-loader
overflow_cast-loader c = omega (arith, c.if-loader-ge-LOADER_LIMIT.false)

pub returns-then-not-is_cached : goal.returns-then-not-is_cached
returns-then-not-is_cached c =
    no-super _ _ _ _ c.if-loader-ge-LOADER_LIMIT.false _ c.could_keep.ensures c.if-not-could_keep.false _ c.super_name.ensures _ c.is_cached.ensures c.if-not-is_cached.true

pub overflow_cast-loader-2 : goal.overflow_cast-loader-2
overflow_cast-loader-2 c = omega (arith, c.if-loader-ge-LOADER_LIMIT.false)

pub returns : goal.returns
returns c =
    its-name _ _ _ _ c.if-loader-ge-LOADER_LIMIT.false _ c.could_keep.ensures c.if-not-could_keep.false _ c.super_name.ensures _ c.is_cached.ensures c.if-not-is_cached.false _ c.class_name.ensures _ c.is_cached-2.ensures
